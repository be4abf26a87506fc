-- Lemmas for the clauses `takes` of `Piece::take_line` and `gives` of `LineReader::next_line`. The invariant of the
-- loop in `next_line` is `SeeksNextLine`. For any start of reading, it says that all bytes read since then are the
-- lines that were returned, a part of the next line, which is in the buffer, and the piece (`IsSeeking`). A lemma for
-- each step and exit moves bytes from the piece to the buffer and shows that this stays true, or that the next line is
-- complete. At the end of the input, the lemmas of `InputLines` show that the lines that were returned are all lines.
use Rattle.std.proofs.Common.{◌≡◌, ◌≢◌, ℕ, ◌+◌, ◌-◌, ◌<◌, ◌≤◌, Bool, true, false, eqb, not, Some, None, take, drop, List, [], ◌∷◌, ◌++◌, length, Ok, Err, refl, sym, ap, ◌∙◌, append_assoc, append-nil, arith}
use Rattle.std.proofs.KnownBytes.{Consumes-nil}
use Rattle.std.specs.List.{position, slice_range}
use Rattle.std.proofs.lemmas.List.{drop-drop, drop-take, length-append, length-take}
use Rattle.run_core.specs.Devices.{Device, MovesBytes}
use Rattle.run_core.specs.Input.{Reads}
use Rattle.run_core.specs.LineRuns.{HasLines, lines_of, piece_size}
use Rattle.run_core.specs.Private.Deliveries.{IsUnfailed}
use Rattle.run_core.specs.Private.Headroom.{HasRoomFor, to_read}
use Rattle.run_core.specs.Private.Lines.{Represents}
use Rattle.run_core.specs.Private.Readers.{FetchesPiece, GivesNext, HasGiven, HasStopped, TakesLine}
use Rattle.run_core.specs.Texts.{HasNoLineFeed, line_feed}
use Rattle.run_core.specs.declared.fault.RunFault.{RunFault}
use Rattle.run_core.specs.declared.reader.LineReader.{LineReader}
use Rattle.run_core.specs.declared.reader.buffer.LineBuffer.{LineBuffer}
use Rattle.run_core.proofs.InputLines.{AllByRecursion-push, HasNoLineFeed-append, HasNoLineFeed-position, IsCutAtFeed_from_position, lines_of-last, lines_of-nil, lines_of-with_line_feeds, with_line_feeds, with_line_feeds-behind_line}
use Rattle.run_core.proofs.MovedBytes.{MovesBytes-none, MovesBytes-trans}
use Rattle.run_core.proofs.FirstLineReading.{Reads-trans, StopsFetching-after_unfailed}

-- ---- a piece

-- A range of a list without its first `k` items is the range that begins `k` items later.
slice_range-drop : (xs : List ℕ) (start end k : ℕ) → start + k ≤ end → slice_range xs (start + k) end ≡ drop k (slice_range xs start end)
slice_range-drop xs start end k within =
    ap (λ ys. take (end - (start + k)) ys) (sym (drop-drop k start xs))
    ∙ (sym (drop-take k (end - (start + k)) (drop start xs))
    ∙ ap (λ n. drop k (take n (drop start xs))) (omega arith))

-- If the piece contains a line feed, `take_line` moves the bytes before it into the buffer and drops it (`TakesLine`).
pub TakesLine-to_feed : (bytes : List ℕ) (start end at : ℕ) (unread : List ℕ) (buffer new_buffer : LineBuffer)
    → start ≤ end → slice_range bytes start end ≡ unread → position (λ b. eqb b 10) unread ≡ Some at
    → ((part : List ℕ) → Represents buffer part → Represents new_buffer (part ++ take at unread))
    → TakesLine unread (slice_range bytes (start + (at + 1)) end) buffer new_buffer true
TakesLine-to_feed bytes start end at unread buffer new_buffer within is found holds =
    let cut = IsCutAtFeed_from_position unread at found in
    let inside = cut.within in
    let few : start + (at + 1) ≤ end = omega (arith, inside, ap length is, length-take (end - start) (drop start bytes)) in
    let rest : slice_range bytes (start + (at + 1)) end ≡ drop (at + 1) unread = slice_range-drop bytes start end (at + 1) few ∙ ap (λ ys. drop (at + 1) ys) is in (
      take at unread,
      cut.parts ∙ ap (λ others. take at unread ++ line_feed ∷ others) (sym rest),
      cut.no_feed,
      holds,
    )

-- If the piece contains no line feed, `take_line` moves all its bytes into the buffer (`TakesLine`).
pub TakesLine-all : (bytes : List ℕ) (end : ℕ) (unread : List ℕ) (buffer new_buffer : LineBuffer) → position (λ b. eqb b 10) unread ≡ None
    → ((part : List ℕ) → Represents buffer part → Represents new_buffer (part ++ unread))
    → TakesLine unread (slice_range bytes end end) buffer new_buffer false
TakesLine-all bytes end unread buffer new_buffer none holds =
    let zero : end - end ≡ 0 = omega arith in
    (ap (λ n. take n (drop end bytes)) zero, HasNoLineFeed-position unread none, holds)

-- ---- lines

module _ {I : Type 0} where
  pub HasGiven-nil : (input : Device I) (reader : LineReader) → reader.piece ≡ [] → reader.at_end ≡ false → HasGiven input input reader []
  HasGiven-nil input reader unread more = record {
    bytes = [];
    reads = record { shown = Consumes-nil _; counted = omega arith };
    unfailed = refl;
    moves = rw more (MovesBytes-none input);
    at = rw (more, unread) ((refl, tt), omega arith);
  }

  -- These lines were returned. Of the bytes after them, the buffer holds a part of the next line, and the rest is the
  -- piece.
  pub record IsSeeking (start now : Device I) (piece : List ℕ) (buffer : LineBuffer) (lines : List (List ℕ)) : Type 0 where
    pub bytes : List ℕ
    pub part : List ℕ
    pub reads : Reads start now bytes
    pub unfailed : IsUnfailed start now
    pub moves : MovesBytes 0 start now
    pub has : HasLines bytes lines (part ++ piece)
    pub no_feed : HasNoLineFeed part
    pub held : Represents buffer part

  -- If the whole piece is moved into the buffer and a new piece is read, the reader is still seeking the next line.
  IsSeeking-read : (start now new : Device I) (piece next fetched : List ℕ) (buffer new_buffer : LineBuffer) (lines : List (List ℕ))
      → IsSeeking start now piece buffer lines → TakesLine piece next buffer new_buffer false → Reads now new fetched
      → IsUnfailed now new → MovesBytes 0 now new → IsSeeking start new fetched new_buffer lines
  IsSeeking-read start now new piece next fetched buffer new_buffer lines is moved reads unfailed moves = record {
    bytes = is.bytes ++ fetched;
    part = is.part ++ piece;
    reads = Reads-trans start now new is.bytes fetched is.reads reads;
    unfailed = unfailed ∙ is.unfailed;
    moves = MovesBytes-trans 0 start now new is.moves moves;
    has = (ap (λ bytes. bytes ++ fetched) is.has.0 ∙ append_assoc (with_line_feeds lines) (is.part ++ piece) fetched, is.has.1);
    no_feed = HasNoLineFeed-append is.part piece is.no_feed moved.1;
    held = moved.2 is.part is.held;
  }

  -- The same if a `fetch` found more bytes.
  pub IsSeeking-fetched : (start now new : Device I) (piece next fetched : List ℕ) (buffer new_buffer : LineBuffer) (lines : List (List ℕ)) (left : ℕ) (found : Bool) → found ≡ true
      → TakesLine piece next buffer new_buffer false → Reads now new fetched → FetchesPiece left now new fetched (Ok found)
      → IsSeeking start now piece buffer lines → IsSeeking start new fetched new_buffer lines
  IsSeeking-fetched start now new piece next fetched buffer new_buffer lines left true some moved reads got before =
      IsSeeking-read start now new piece next fetched buffer new_buffer lines before moved reads got.0 got.1
  IsSeeking-fetched start now new piece next fetched buffer new_buffer lines left false some moved reads got before = absurd (cc)

  -- Exit with a line feed: if the piece has a line feed, the next line is complete.
  pub GivesNext-line_feed : (start now : Device I) (piece : List ℕ) (buffer : LineBuffer) (next : LineReader) (lines : List (List ℕ)) (left : ℕ)
      → next.at_end ≡ false → TakesLine piece next.piece buffer next.buffer true → length piece ≤ piece_size
      → IsSeeking start now piece buffer lines → GivesNext left start now next lines (Ok true)
  GivesNext-line_feed start now piece buffer next lines left more moved size is =
      let front = moved.0 in
      let line = is.part ++ front in
      let few : length next.piece < piece_size = omega (arith, size, ap length moved.1, length-append front (line_feed ∷ next.piece)) in
      let has : HasLines is.bytes (lines ++ line ∷ []) next.piece = (
        is.has.0
            ∙ (sym (append_assoc (with_line_feeds lines) is.part piece)
            ∙ (ap (λ others. (with_line_feeds lines ++ is.part) ++ others) moved.1
            ∙ with_line_feeds-behind_line (with_line_feeds lines ++ is.part) lines is.part front line next.piece refl refl)),
        AllByRecursion-push HasNoLineFeed lines line is.has.1 (HasNoLineFeed-append is.part front is.no_feed moved.2),
      ) in (
        line,
        moved.3 is.part is.held,
        record {
          bytes = is.bytes;
          reads = is.reads;
          unfailed = is.unfailed;
          moves = rw more is.moves;
          at = rw more (has, few);
        },
      )

  -- Exit at the end of the input: the buffer holds the last line, or there is no further line.
  pub GivesNext-end_of_input : (start now new : Device I) (piece moved_piece : List ℕ) (buffer : LineBuffer) (next : LineReader) (lines : List (List ℕ)) (left new_left : ℕ) (found is_empty : Bool) → found ≡ false
      → next.at_end ≡ true → TakesLine piece moved_piece buffer next.buffer false → Reads now new next.piece → FetchesPiece left now new next.piece (Ok found)
      → ((part : List ℕ) → Represents next.buffer part → (is_empty ≡ true → part ≡ []) × (part ≡ [] → is_empty ≡ true))
      → IsSeeking start now piece buffer lines → GivesNext new_left start new next lines (Ok (not is_empty))
  GivesNext-end_of_input start now new piece moved_piece buffer next lines left new_left true is_empty none at_end moved reads got tells before = absurd (cc)
  GivesNext-end_of_input start now new piece moved_piece buffer next lines left new_left false is_empty none at_end moved reads got tells is =
      go is_empty (tells line (moved.2 is.part is.held))
    where
      line : List ℕ
      line = is.part ++ piece

      no_feed : HasNoLineFeed line
      no_feed = HasNoLineFeed-append is.part piece is.no_feed moved.1

      lines_are : lines_of (is.bytes ++ next.piece) ≡ lines ++ lines_of line
      lines_are = ap lines_of (ap (λ more. is.bytes ++ more) got.2 ∙ append-nil is.bytes ∙ is.has.0) ∙ lines_of-with_line_feeds lines line is.has.1

      given : (given_lines : List (List ℕ)) → given_lines ≡ lines_of (is.bytes ++ next.piece) → HasGiven start new next given_lines
      given given_lines all = record {
        bytes = is.bytes ++ next.piece;
        reads = Reads-trans start now new is.bytes next.piece is.reads reads;
        unfailed = got.0 ∙ is.unfailed;
        moves = rw at_end (MovesBytes-trans 1 start now new is.moves got.1);
        at = rw at_end (got.3, all);
      }

      go : (is_empty : Bool) → (is_empty ≡ true → line ≡ []) × (line ≡ [] → is_empty ≡ true) → GivesNext new_left start new next lines (Ok (not is_empty))
      go true tells =
          (at_end, given lines (sym (lines_are ∙ ap (λ part. lines ++ lines_of part) (tells.0 refl) ∙ ap (λ others. lines ++ others) lines_of-nil ∙ append-nil lines)))
      go false tells =
          let some : line ≢ [] = λ none. let both = tells.1 none in absurd (cc) in
          (line, moved.2 is.part is.held, given (lines ++ line ∷ []) (sym (lines_are ∙ ap (λ others. lines ++ others) (lines_of-last line no_feed some))))

  -- Exit when reading stops: a read failed, or no I/O call was left. The bytes that were read are the lines that were
  -- returned, each with its line feed, and a rest without a line feed.
  pub HasStopped-fetch_failed : (start now new : Device I) (piece next fetched : List ℕ) (buffer new_buffer : LineBuffer) (lines : List (List ℕ)) (left new_left : ℕ) (fault : RunFault)
      → TakesLine piece next buffer new_buffer false → Reads now new fetched → FetchesPiece left now new fetched (Err fault) → new_left ≡ left - 1
      → IsSeeking start now piece buffer lines → HasStopped new_left start new lines fault
  HasStopped-fetch_failed start now new piece next fetched buffer new_buffer lines left new_left fault moved reads got took is = record {
    bytes = is.bytes ++ fetched;
    rest = is.part ++ piece;
    reads = Reads-trans start now new is.bytes fetched is.reads reads;
    has = (ap (λ more. is.bytes ++ more) got.0 ∙ append-nil is.bytes ∙ is.has.0, is.has.1);
    no_feed = HasNoLineFeed-append is.part piece is.no_feed moved.1;
    stops = StopsFetching-after_unfailed start now new left new_left fault is.unfailed is.moves got.1 took;
  }

  -- ---- the loop

  -- The loop's invariant: the reader has not found the end of the input, and seeks the next line. The clause `gives`
  -- needs the field `seeking`, and the other clauses of `next_line` need the fields after it.
  pub record SeeksNextLine (old_reader : LineReader) (old now : Device I) (reader : LineReader) (old_left left : ℕ) : Type 0 where
    pub more : reader.at_end ≡ false
    pub seeking : (start : Device I) (lines : List (List ℕ)) → HasGiven start old old_reader lines → IsSeeking start now reader.piece reader.buffer lines
    pub room : HasRoomFor piece_size left now
    pub calls : now.calls + left ≡ old.calls + old_left
    pub fewer : left ≤ old_left
    pub shorter : to_read left reader.piece ≤ to_read old_left old_reader.piece

  -- A `fetch` that returned, whether it found more bytes or not, did not fail.
  IsUnfailed-fetched : (now new : Device I) (fetched : List ℕ) (left : ℕ) (found : Bool) → FetchesPiece left now new fetched (Ok found) → IsUnfailed now new
  IsUnfailed-fetched now new fetched left true got = got.0
  IsUnfailed-fetched now new fetched left false got = got.0

  -- After a `fetch`, `HasRoomFor` holds for the I/O calls that are left.
  pub HasRoomFor-fetched : (now new : Device I) (fetched : List ℕ) (left new_left : ℕ) (found : Bool) → HasRoomFor piece_size left now → Reads now new fetched
      → FetchesPiece left now new fetched (Ok found) → length fetched ≤ piece_size → 0 < left → new_left ≡ left - 1 → new.calls + new_left ≡ now.calls + left
      → HasRoomFor piece_size new_left new
  HasRoomFor-fetched now new fetched left new_left found room reads got size some took calls =
      let unfailed = IsUnfailed-fetched now new fetched left found got in
      let counted = reads.counted in
      let failures = room.failures in
      let bytes = room.bytes in
      let all = room.calls in
      record { failures = omega (arith, failures, unfailed); calls = omega (arith, all, calls); bytes = omega (arith, bytes, counted, size, some, took) }
