-- Proves the clauses of `append_packed`, and the preconditions of the calls in its loop: each group of the table has
-- one to three indices into the digest, and the text has room for its characters. The loop appends the groups in the
-- order of `packed` (PackingLemmas).
use Rattle.std.proofs.Common.{◌≡◌, ◌+◌, ◌++◌, [], length, arith, ap, Bor, List, ℕ, get_or, drop, ◌∙◌}
use Rattle.std.proofs.lemmas.List.{length-append}
use Rattle.crypt_core.specs.MethodLimits.{packed_len}
use Rattle.crypt_core.specs.Packing.{packed, packed_group, group_number}
use Rattle.crypt_core.specs.Private.Groups.{AreGroups, groups_in}
use Rattle.crypt_core.proofs.PackingLemmas.{append-packed_by_none_left, IsGroup-get_or, length-from_IsGroup, AreGroups-groups_of, length-packed_by_method, packed_by-drop, packed_by}
use Rattle.prims_core.proofs.NumeralFacts.{length-numerals}
use Rattle.crypt_core.proofs.pack.append_packed.Goals as goal

pub number_of-requires : goal.number_of-requires
number_of-requires c =
    let are_groups : AreGroups (length c.args.digest.now) (groups_in c.row.result.groups.now) = rw (c.row.ensures.groups, c.requires.digest) (AreGroups-groups_of c.args.method) in
    IsGroup-get_or _ c.row.result.groups.now c.groups.places-index _ c.groups-test.true are_groups

pub put_group-requires-clause-few : goal.put_group-requires-clause-few
put_group-requires-clause-few c =
    let none : Bor (List ℕ) = record { ref_ptr = (0, 0); now = [] } in
    let table = c.row.result.groups.now in
    let are_groups : AreGroups (length c.args.digest.now) (groups_in table) = rw (c.row.ensures.groups, c.requires.digest) (AreGroups-groups_of c.args.method) in
    let group_length = length-from_IsGroup (length c.args.digest.now) (get_or table c.groups.places-index none).now
    (IsGroup-get_or _ table c.groups.places-index none c.groups-test.true are_groups) in
    omega (arith, group_length.1)

pub put_group-requires-clause-room : goal.put_group-requires-clause-room
put_group-requires-clause-room c =
    let table = c.row.result.groups.now in
    let digest = c.args.digest.now in
    let i = c.groups.places-index in
    let none : Bor (List ℕ) = record { ref_ptr = (0, 0); now = [] } in
    let places = (get_or table i none).now in
    let rest = packed_by (groups_in (drop (i + 1) table)) digest in
    let text_lengths = ap length (rw (packed_by-drop digest table i none c.groups-test.true) at c.groups.invariant) in
    let packed_length : length (packed_by (groups_in table) digest) ≡ packed_len c.args.method = rw c.row.ensures.groups (length-packed_by_method c.args.method digest) in
    omega (
      arith,
      text_lengths,
      packed_length,
      c.requires.room,
      length-append c.args.text.now.items (packed_by (groups_in table) digest),
      length-append c.groups.text.items (packed_group digest places ++ rest),
      length-append (packed_group digest places) rest,
      length-numerals (length places + 1) (group_number digest places),
    )

pub returns-clause-text : goal.returns-clause-text
unfolding packed
returns-clause-text c =
    append-packed_by_none_left c.args.digest.now c.row.result.groups.now c.groups.places-index c.groups.text.items _ c.groups-test.false c.groups.invariant
    ∙ ap (λ (groups : List (List ℕ)). c.args.text.now.items ++ packed_by groups c.args.digest.now) c.row.ensures.groups

pub returns-clause-length : goal.returns-clause-length
unfolding packed
returns-clause-length c =
    ap length (returns-clause-text c)
    ∙ length-append c.args.text.now.items (packed c.args.method c.args.digest.now)
    ∙ ap (λ more. length c.args.text.now.items + more) (length-packed_by_method c.args.method c.args.digest.now)
