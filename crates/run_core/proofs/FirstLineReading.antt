-- Lemmas for the clause `read` of `read_first_line` (one/password.rt). The invariant of its loop is `IsReading`: the
-- bytes that were read are at the front of the buffer, and contain no line feed. `IsReading-fetched` shows that a
-- `fetch` keeps it. One lemma for each exit of the loop shows what is known there: a line feed was found, the input
-- ended, reading stopped, or the buffer is full. `Reads-trans` and `StopsFetching-after_unfailed` join two steps of
-- reading, and `LineReading` uses them too.
use Rattle.std.proofs.Common.{◌≡◌, ◌≢◌, ℕ, ◌+◌, ◌-◌, ◌≤◌, ◌<◌, List, [], ◌++◌, length, take, drop, eqb, Some, None, Ok, Err, sym, ap, subst, ◌∙◌, append-nil, arith, inl, inr}
use Rattle.std.specs.List.{position, slice_range}
use Rattle.std.proofs.KnownBytes.{Consumes-trans}
use Rattle.std.proofs.Math.Seq.{take-add}
use Rattle.std.proofs.lemmas.List.{length-append, length-drop, length-take-le, take-take}
use Rattle.run_core.specs.Devices.{Device, MovesBytes}
use Rattle.run_core.specs.Input.{first_line, Reads}
use Rattle.run_core.specs.Private.Deliveries.{IsUnfailed}
use Rattle.run_core.specs.Private.Fetching.{Fetches, FindsLine, IsUndecided, StopsFetching, buffer_size}
use Rattle.run_core.specs.declared.fault.RunFault.{RunFault}
use Rattle.run_core.proofs.LineFeeds.{feed_at, feed_at-append, first_line-take, first_line-whole, Contains-feed_at, not_Contains-feed_at, position-Some, position-None}
use Rattle.run_core.proofs.MovedBytes.{MovesBytes-trans}

slice_range-take-drop : (next : List ℕ) (filled count : ℕ) → slice_range next filled (filled + count) ≡ take count (drop filled next)
slice_range-take-drop next filled count = ap (λ n. take n (drop filled next)) (omega arith)

module _ {I : Type 0} where
  -- The loop's invariant: the first `filled` bytes of the buffer are those that were read, and contain no line feed. No
  -- call failed, and each call returned a byte.
  pub record IsReading (old new : Device I) (buffer : List ℕ) (filled turns left : ℕ) : Type 0 where
    pub size : length buffer ≡ buffer_size
    pub within : filled ≤ buffer_size
    pub reads : Reads old new (take filled buffer)
    pub no_line_feed : feed_at (take filled buffer) ≡ filled
    pub unfailed : IsUnfailed old new
    pub calls : new.calls + left ≡ old.calls + turns
    pub fewer : left ≤ turns
    pub moves : MovesBytes 0 old new

  pub Reads-trans : (old mid new : Device I) (front piece : List ℕ) → Reads old mid front → Reads mid new piece
      → Reads old new (front ++ piece)
  Reads-trans old mid new front piece before more =
      let counted = before.counted in
      let more_counted = more.counted in
      record {
        shown = Consumes-trans _ mid.shown _ front piece before.shown more.shown;
        counted = omega (arith, length-append front piece, counted, more_counted);
      }

  -- A `fetch` put `count` bytes into the buffer, after the first `filled` bytes, which it left unchanged.
  pub record HasFetched (old mid new : Device I) (buffer next : List ℕ) (filled count turns left : ℕ) : Type 0 where
    pub before : IsReading old mid buffer filled turns left
    pub room : filled < buffer_size
    pub size : length next ≡ buffer_size
    pub kept : take filled next ≡ take filled buffer
    pub fetched : Fetches left mid new (drop filled next) (Ok count)

  -- After the `fetch` of `HasFetched`, the first `filled + count` bytes of the buffer are all bytes that were read.
  -- They fit into the buffer, and are the `filled` bytes from before, without a line feed, and then `count` new bytes.
  Reads_from_HasFetched : (old mid new : Device I) (buffer next : List ℕ) (filled count turns left : ℕ)
      → HasFetched old mid new buffer next filled count turns left
      → (filled + count ≤ buffer_size)
      × (take (filled + count) next ≡ take filled next ++ take count (drop filled next))
      × (length (take filled next) ≡ filled)
      × (length (take count (drop filled next)) ≡ count)
      × (feed_at (take filled next) ≡ filled)
      × Reads old new (take (filled + count) next)
  Reads_from_HasFetched old mid new buffer next filled count turns left h =
      let piece = take count (drop filled next) in
      let size = h.size in
      let room = h.room in
      let rest : length (drop filled next) ≡ buffer_size - filled = omega (arith, length-drop filled next, size) in
      let within : filled + count ≤ buffer_size = omega (arith, rest, h.fetched.0, room) in
      let parts : take (filled + count) next ≡ take filled next ++ piece = take-add filled count next in
      let front_reads : Reads old mid (take filled next) = subst (Reads old mid) (sym h.kept) h.before.reads in (
        within,
        parts,
        length-take-le filled next (omega (arith, size, room)),
        length-take-le count (drop filled next) h.fetched.0,
        ap feed_at h.kept ∙ h.before.no_line_feed,
        subst (Reads old new) (sym parts) (Reads-trans old mid new _ piece front_reads h.fetched.2),
      )

  -- Exit with a line feed: if the new bytes contain a line feed, the first line ends there.
  pub FindsLine-line_feed : (old mid new : Device I) (buffer next : List ℕ) (filled count turns left left_new at : ℕ)
      → HasFetched old mid new buffer next filled count turns left
      → position (λ b. eqb b 10) (slice_range next filled (filled + count)) ≡ Some at
      → (bytes : List ℕ) × Reads old new bytes × FindsLine old new bytes left_new next (Ok (filled + at))
  FindsLine-line_feed old mid new buffer next filled count turns left left_new at h found =
      let so_far = Reads_from_HasFetched old mid new buffer next filled count turns left h in
      let bytes = take (filled + count) next in
      let piece = take count (drop filled next) in
      let place = position-Some piece at (rw slice_range-take-drop at found) in
      let feed : feed_at bytes ≡ filled + at =
      ap feed_at so_far.1 ∙ feed_at-append (take filled next) piece (so_far.4 ∙ sym so_far.2) ∙ omega (arith, so_far.2, place.0) in
      let below : filled + at < filled + count = omega (arith, place.1, so_far.3) in
      let size : length bytes ≡ filled + count = length-take-le (filled + count) next (let long = h.size in omega (arith, long, so_far.0)) in (
        bytes,
        so_far.5,
        (
          h.fetched.1 ∙ h.before.unfailed,
          inl (Contains-feed_at bytes (omega (arith, feed, below, size))),
          (let long = h.size in omega (arith, long, so_far.0, below)),
          sym (first_line-take bytes ∙ ap (λ n. take n bytes) feed ∙ take-take (filled + at) (filled + count) next (omega (arith, below))),
        ),
      )

  -- If the new bytes contain no line feed, no byte that was read is a line feed.
  feed_at-fetched : (old mid new : Device I) (buffer next : List ℕ) (filled count turns left : ℕ)
      → HasFetched old mid new buffer next filled count turns left
      → position (λ b. eqb b 10) (slice_range next filled (filled + count)) ≡ None
      → feed_at (take (filled + count) next) ≡ filled + count
  feed_at-fetched old mid new buffer next filled count turns left h none =
      let so_far = Reads_from_HasFetched old mid new buffer next filled count turns left h in
      let piece = take count (drop filled next) in
      let in_piece = position-None piece (rw slice_range-take-drop at none) in
      ap feed_at so_far.1 ∙ feed_at-append (take filled next) piece (so_far.4 ∙ sym so_far.2) ∙ omega (arith, so_far.2, so_far.3, in_piece)

  -- Exit at the end of the input: if no byte was read, the input is at its end, and all bytes that were read are the
  -- first line.
  pub FindsLine-end_of_input : (old mid new : Device I) (buffer next : List ℕ) (filled count turns left left_new : ℕ)
      → HasFetched old mid new buffer next filled count turns left
      → position (λ b. eqb b 10) (slice_range next filled (filled + count)) ≡ None → count ≡ 0
      → (bytes : List ℕ) × Reads old new bytes × FindsLine old new bytes left_new next (Ok filled)
  FindsLine-end_of_input old mid new buffer next filled count turns left left_new h none ended =
      let so_far = Reads_from_HasFetched old mid new buffer next filled count turns left h in
      let bytes = take (filled + count) next in
      let long = h.size in
      let size : length bytes ≡ filled + count = length-take-le (filled + count) next (omega (arith, long, so_far.0)) in
      let whole : first_line bytes ≡ bytes = first_line-whole bytes (feed_at-fetched old mid new buffer next filled count turns left h none ∙ sym size) in (
        bytes,
        so_far.5,
        (
          h.fetched.1 ∙ h.before.unfailed,
          inr (inl (h.fetched.3 ended)),
          omega (arith, long, so_far.0),
          ap (λ n. take n next) (omega (arith, ended)) ∙ sym whole,
        ),
      )

  -- The invariant is kept if some bytes were read that contain no line feed.
  pub IsReading-fetched : (old mid new : Device I) (buffer next : List ℕ) (filled count turns left left_new : ℕ)
      → HasFetched old mid new buffer next filled count turns left
      → position (λ b. eqb b 10) (slice_range next filled (filled + count)) ≡ None → count ≢ 0
      → left_new ≡ left - 1 → new.calls + left_new ≡ mid.calls + left
      → IsReading old new next (filled + count) turns left_new
  IsReading-fetched old mid new buffer next filled count turns left left_new h none some took calls =
      let so_far = Reads_from_HasFetched old mid new buffer next filled count turns left h in
      let before_calls = h.before.calls in
      record {
        size = h.size;
        within = so_far.0;
        reads = so_far.5;
        no_line_feed = feed_at-fetched old mid new buffer next filled count turns left h none;
        unfailed = h.fetched.1 ∙ h.before.unfailed;
        calls = omega (arith, before_calls, calls);
        fewer = (let were_fewer = h.before.fewer in omega (arith, were_fewer, took));
        moves = MovesBytes-trans 0 old mid new h.before.moves (h.fetched.4 some);
      }

  -- While the buffer has room, the bytes that were read do not decide what the password is.
  IsUndecided_from_IsReading : (old mid : Device I) (buffer : List ℕ) (filled turns left : ℕ)
      → IsReading old mid buffer filled turns left → filled < buffer_size → IsUndecided (take filled buffer)
  IsUndecided_from_IsReading old mid buffer filled turns left before room =
      let long = before.size in
      let size : length (take filled buffer) ≡ filled = length-take-le filled buffer (omega (arith, long, room)) in
      (not_Contains-feed_at _ (before.no_line_feed ∙ sym size), omega (arith, size, room))

  -- If each earlier `fetch` returned a byte and did not fail, and the next one stops, `StopsFetching` holds for all of
  -- them together.
  pub StopsFetching-after_unfailed : (old mid new : Device I) (left left_new : ℕ) (fault : RunFault) → IsUnfailed old mid → MovesBytes 0 old mid
      → StopsFetching left mid new fault → left_new ≡ left - 1 → StopsFetching left_new old new fault
  StopsFetching-after_unfailed old mid new left left_new fault unfailed moves stops took = (
    MovesBytes-trans 0 old mid new moves stops.0,
    elim stops.1 [
      | inl (is, failed) ↦ inl (is, omega (arith, unfailed, failed))
      | inr (is, still, none) ↦ inr (is, still ∙ unfailed, omega (arith, took, none))
    ],
  )

  -- Exit when reading stops: a `fetch` failed, or no I/O call was left. The bytes that were read contain no line feed,
  -- and do not fill the buffer.
  pub FindsLine-stopped : (old mid new : Device I) (buffer next : List ℕ) (filled turns left left_new : ℕ) (fault : RunFault)
      → IsReading old mid buffer filled turns left → filled < buffer_size
      → Fetches left mid new (drop filled next) (Err fault) → left_new ≡ left - 1
      → (bytes : List ℕ) × Reads old new bytes × FindsLine old new bytes left_new next (Err fault)
  FindsLine-stopped old mid new buffer next filled turns left left_new fault before room fetched took = (
    take filled buffer,
    subst (Reads old new) (append-nil _) (Reads-trans old mid new _ [] before.reads fetched.0),
    (
      IsUndecided_from_IsReading old mid buffer filled turns left before room,
      StopsFetching-after_unfailed old mid new left left_new fault before.unfailed before.moves fetched.1 took,
    ),
  )

  -- Exit with a full buffer: the first line is too long for a password, which is the third case of `IsDecided`.
  pub FindsLine-full_buffer : (old mid : Device I) (buffer : List ℕ) (filled turns left : ℕ)
      → IsReading old mid buffer filled turns left → buffer_size ≤ filled
      → (bytes : List ℕ) × Reads old mid bytes × FindsLine old mid bytes left buffer (Ok filled)
  FindsLine-full_buffer old mid buffer filled turns left before full =
      let bytes = take filled buffer in
      let long = before.size in
      let within = before.within in
      let size : length bytes ≡ filled = length-take-le filled buffer (omega (arith, long, within)) in
      let whole : first_line bytes ≡ bytes = first_line-whole bytes (before.no_line_feed ∙ sym size) in (
        bytes,
        before.reads,
        (
          before.unfailed,
          inr (inr (omega (arith, ap length whole, size, full))),
          omega (arith, long, within),
          sym whole,
        ),
      )
