-- The setting of each hash of a run. It has a scheme, and a salt that is given once for all hashes or made anew for
-- each.
use Rattle.std.specs.Prelude.{ℕ, List, length, Option, Some, None, is_some, option_map, if◌then◌else◌}
use Rattle.std.specs.Borrow.{Bor}
use Rattle.std.specs.Option.{option_map_or}
use Rattle.rand_core.specs.Stream.{Stream}
use Rattle.crypt_core.specs.MadeSalts.{three_words}
use Rattle.crypt_core.specs.MadeSettings.{salted}
use Rattle.crypt_core.specs.Methods.{method_row}
use Rattle.crypt_core.specs.Schemes.{method_of}
use Rattle.crypt_core.specs.Settings.{SettingValue}
use Rattle.crypt_core.specs.Work.{cost_by}
use Rattle.crypt_core.specs.declared.scheme.Scheme.{Scheme as SchemeValue}
use Rattle.run_core.specs.declared.job.Source.{Source}
use Rattle.run_core.specs.declared.job.Source.TheVariants.{Setting, Scheme}

-- A `Recipe` is what settings are made from: a scheme, and a salt if one is given. Without a salt, each setting gets a
-- new one.
pub record Recipe : Type 0 where
  pub scheme : SchemeValue
  pub salt : Option (List ℕ)

-- recipe_of source is the recipe for settings that the source holds: a scheme and a given salt, or a scheme alone.
abbrev pub recipe_of : Source → Recipe
recipe_of (Setting setting) = record { scheme = setting.scheme; salt = Some setting.salt }
recipe_of (Scheme scheme) = record { scheme = scheme; salt = None }

-- bytes_of reference is the list of bytes that the reference refers to, if there is a reference.
abbrev pub bytes_of : Option (Bor (List ℕ)) → Option (List ℕ)
bytes_of = option_map (λ bytes. bytes.now)

-- setting_by recipe numbers is the setting with the given salt, or with a new salt that is made from these random
-- numbers.
abbrev pub setting_by : Recipe → List ℕ → SettingValue
setting_by recipe numbers = option_map_or (λ salt. record { scheme = recipe.scheme; salt = salt }) recipe.salt (salted recipe.scheme numbers)

-- next_setting recipe stream is the setting of the next hash. If no salt is given, the salt is made from the next three
-- random numbers.
abbrev pub next_setting : Recipe → Stream → SettingValue
next_setting recipe stream = setting_by recipe (three_words stream).0

-- stream_after recipe stream is what is left of the random numbers after the next setting is made. If no salt is given,
-- three of them have been drawn.
abbrev pub stream_after : Recipe → Stream → Stream
stream_after recipe stream = if is_some recipe.salt then stream else (three_words stream).1

-- made_cost_by recipe password_length is the maximum cost of hashing a password of this length with a setting that is
-- made by the recipe. The length of the salt is that of the given salt, or else that of the method's new salts.
abbrev pub made_cost_by : Recipe → ℕ → ℕ
made_cost_by recipe password_length =
    cost_by recipe.scheme password_length (option_map_or length recipe.salt (method_row (method_of recipe.scheme)).made_salt_length)
