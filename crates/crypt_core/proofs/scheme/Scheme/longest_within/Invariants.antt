-- The binary search of `Scheme::longest_within` ends because each step brings `within` and `above` closer together.
use Rattle.std.proofs.Common.{◌+◌, ◌-◌, ◌<◌, ◌≤◌}
use Rattle.crypt_core.specs.Passwords.{password_limit}
use Rattle.crypt_core.specs.Policies.{new_cost}
use Rattle.crypt_core.proofs.scheme.Scheme.longest_within.Given as goal

-- A password of `within` bytes costs at most the limit, and one of `above` bytes costs more, if passwords can be that
-- long.
abbrev pub invariant-lengths : goal.invariant-lengths
invariant-lengths l = record {
  order : l.within < l.above;
  most : l.above ≤ password_limit + 1;
  within : new_cost l.self l.within ≤ l.limit;
  above : l.above ≤ password_limit → l.limit < new_cost l.self l.above;
}

abbrev pub decreases-lengths : goal.decreases-lengths
decreases-lengths l = l.above - l.within
