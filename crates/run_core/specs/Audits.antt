-- The findings of an audit, as they are printed.
use Rattle.std.specs.Prelude.{ℕ, ◌∷◌, ◌++◌, List, codes, decimal}
use Rattle.crypt_core.specs.Methods.{method_row}
use Rattle.crypt_core.specs.Schemes.{method_of, row_count}
use Rattle.crypt_core.specs.Faults.{setting_fault_text}
use Rattle.crypt_core.specs.declared.scheme.Scheme.{Scheme}
use Rattle.crypt_core.specs.declared.scheme.Scheme.TheVariants.{Md5crypt, Shacrypt, Scrypt}
use Rattle.crypt_core.specs.declared.standing.Standing.{Standing}
use Rattle.crypt_core.specs.declared.standing.Standing.TheVariants.{Current, Outdated, Dead, OverBudget}
use Rattle.crypt_core.specs.OtherSchemes.{other_scheme_row}
use Rattle.run_core.specs.Texts.{colon, slash}
use Rattle.crypt_core.specs.declared.finding.Finding.{Finding}
use Rattle.crypt_core.specs.declared.finding.Finding.TheVariants.{Hash, NoHash, Locked, Other, Unknown, NoScheme, Malformed}

-- standing_text standing is the standing as it is printed, at the end of the finding of a hash.
abbrev pub standing_text : Standing → List ℕ
standing_text Current = codes "current"
standing_text Outdated = codes "outdated"
standing_text Dead = codes "dead"
standing_text OverBudget = codes "over budget"

-- rounds_text scheme is the number of rounds in decimal, or `N/r/p` for scrypt.
abbrev pub rounds_text : Scheme → List ℕ
rounds_text Md5crypt = codes "1000"
rounds_text (Shacrypt sha rounds) = decimal rounds.count
rounds_text (Scrypt params) = decimal (row_count params) ++ slash ∷ decimal params.r ++ slash ∷ decimal params.p

-- finding_text finding is the finding as it is printed after the name.
abbrev pub finding_text : Finding → List ℕ
finding_text (Hash scheme most standing) =
    (method_row (method_of scheme)).name ++ colon ∷ rounds_text scheme ++ colon ∷ decimal most ++ colon ∷ standing_text standing
finding_text NoHash = codes "none"
finding_text Locked = codes "locked"
finding_text (Other other) = (other_scheme_row other).1 ++ codes ":unknown"
finding_text Unknown = codes "unknown"
finding_text NoScheme = codes "no scheme"
finding_text (Malformed fault) = codes "malformed:" ++ setting_fault_text fault
