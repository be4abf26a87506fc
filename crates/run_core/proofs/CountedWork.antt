-- Lemmas for the clauses `decides` of `answer_line` and `runs` of `run_one`, where an answer shows the work between two
-- readings of the meter. `after_work-raised_by` shows by induction over the hashes that the counts after them are the
-- counts before plus the sum of their work. So the difference of the two readings is the work of these hashes.
-- `IsBelow-work_between` shows that it fits into 64 bits, as `work_since` requires.
use Rattle.std.proofs.Common.{◌≡◌, ℕ, ◌<◌, ◌^◌, List, [], ◌∷◌, ap, sym, ◌∙◌, add_assoc, zero-add, arith, rules}
use Rattle.prims_core.specs.Work.{no_work, raised_by, work_between, IsBelow}
use Rattle.prims_core.specs.declared.meter.Work.{Work}
use Rattle.crypt_core.specs.Work.{work}
use Rattle.run_core.specs.Answers.{Hashing, after_work}
use Rattle.run_core.specs.Private.Answers.{IsRaisedBelow}

-- Adding no work changes no count.
raised_by-no_work : (counts : Work) → counts ≡ raised_by counts no_work
raised_by-no_work counts = search rules

raised_by-raised_by : (counts one other : Work) → raised_by (raised_by counts one) other ≡ raised_by counts (raised_by one other)
raised_by-raised_by counts one other = simp add_assoc

no_work-raised_by : (own : Work) → raised_by no_work own ≡ own
no_work-raised_by own = simp zero-add

-- The counts after some hashes are the counts before plus the sum of the work of these hashes.
pub after_work-raised_by : (counts : Work) (hashings : List Hashing) → after_work counts hashings ≡ raised_by counts (after_work no_work hashings)
after_work-raised_by counts [] = raised_by-no_work counts
after_work-raised_by counts (next ∷ others) =
    let own = work next.password next.setting in
    let sum : raised_by own (after_work no_work others) ≡ after_work (raised_by no_work own) others =
    sym (after_work-raised_by own others) ∙ ap (λ (w : Work). after_work w others) (sym (no_work-raised_by own)) in
    after_work-raised_by (raised_by counts own) others ∙ raised_by-raised_by counts own (after_work no_work others) ∙ ap (raised_by counts) sum

-- If each count has grown by less than a limit below 2^64, each difference fits into 64 bits.
pub IsBelow-work_between : (limit : ℕ) (before after : Work) → limit < 2 ^ 64 → IsRaisedBelow limit before after → IsBelow (work_between before after) (2 ^ 64)
IsBelow-work_between limit before after few small = record {
  digests = (let raised = small.digests in omega arith);
  bytes = (let raised = small.bytes in omega arith);
  mixes = (let raised = small.mixes in omega arith);
  table = (let raised = small.table in omega arith);
  scratch = (let raised = small.scratch in omega arith);
}
