-- In the loop of `append_packed`, the text so far, followed by the packed form of the groups that are left, is the
-- whole result.
use Rattle.std.proofs.Common.{◌≡◌, ◌++◌, drop}
use Rattle.crypt_core.proofs.PackingLemmas.{packed_by}
use Rattle.crypt_core.specs.Private.Groups.{groups_in}
use Rattle.crypt_core.proofs.pack.append_packed.Given as goal

abbrev pub invariant-groups : goal.invariant-groups
invariant-groups l =
    l.text.items ++ packed_by (groups_in (drop l.places-index l.groups)) l.digest ≡ l.fn.text.items ++ packed_by (groups_in l.groups) l.digest
