-- The bound on the work of a hash, and the setting of a new hash, both for C and for web pages.
use Rattle.std.specs.Prelude.{◌≡◌, ℕ, nat_lt, MatchBool, List, [], length}
use Rattle.prims_core.specs.Work.{no_work}
use Rattle.crypt_core.specs.MadeSettings.{salted}
use Rattle.crypt_core.specs.Settings.{canonical_text}
use Rattle.crypt_core.specs.Work.{cost, work_bound}
use Rattle.call_core.specs.Arguments.{OnGiven, OnLength, OnScheme, OnSetting, Refuses, TakesNewRounds}
use Rattle.call_core.specs.Reports.{Leaves, refused, succeeded, token}
use Rattle.call_core.specs.declared.reason.Reason.TheVariants.{TooFewBytes}
use Rattle.call_core.specs.declared.report.Report.{Report}

-- Bounds len stored report: the report of mkpasswd_bound and web_cost: the cost, and the bound on the work, of the hash
-- of any password of this length with the setting that `stored` spells.
abbrev pub Bounds : ℕ → List ℕ → Report → Type 0
Bounds len stored report =
    OnLength len (Refuses report) (OnSetting stored (Refuses report) (λ kept.
    report ≡ succeeded 0 (cost kept len) (work_bound kept len)))

-- PutsText text old report new: the call writes the text of a setting to `out` and reports its length. If the capacity
-- is too small, it reports TooFewBytes and writes the token.
abbrev pub PutsText : List ℕ → List ℕ → Report → List ℕ → Type 0
PutsText text old report new =
    MatchBool (nat_lt (length text) (length old))
    (Leaves (succeeded (length text) 0 no_work) text old report new)
    (Leaves (refused TooFewBytes 0) (token []) old report new)

-- PutsSetting number rounds numbers old report new: the effect of web_setting: it writes the setting that the random
-- numbers make, or the token if the method or the rounds are refused or the capacity is too small.
abbrev pub PutsSetting : ℕ → ℕ → List ℕ → List ℕ → Report → List ℕ → Type 0
PutsSetting number rounds numbers old report new =
    OnScheme TakesNewRounds number rounds (λ reason. Leaves (refused reason 0) (token []) old report new) (λ scheme.
    PutsText (canonical_text (salted scheme numbers)) old report new)

-- PutsGivenSetting number rounds salt old report new: the effect of mkpasswd_setting: it writes the setting with the
-- given salt, or the token if the method, the salt or the rounds are refused or the capacity is too small.
abbrev pub PutsGivenSetting : ℕ → ℕ → List ℕ → List ℕ → Report → List ℕ → Type 0
PutsGivenSetting number rounds salt old report new =
    OnGiven number rounds salt (λ reason. Leaves (refused reason 0) (token []) old report new) (λ kept. PutsText (canonical_text kept) old report new)
