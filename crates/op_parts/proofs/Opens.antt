-- What an opening knows of its path.
use Rattle.std.proofs.Common.{◌≡◌, true, false, refl, subst, Result, ℕ, ◌<◌, Bool, List, [], ◌∷◌, length, Option, Some, None, IfSome, if◌then◌else◌}
use Rattle.std.proofs.lemmas.Bool.{false≢true}
use Rattle.answer_source.specs.Sources.{found_seen}
use Rattle.op_devices.specs.Asking.{Known}
use Rattle.op_devices.specs.Opening.{mode_named, is_fetched, if_fetched, path_in, IsOpened, EndsAt}
use Rattle.op_parts.specs.Files.{is_told}
use Rattle.op_work.specs.declared.stop.Stop.{Stop}
use Rattle.op_work.specs.Work.{WorkView}
use Rattle.py_model.specs.Plan.{Plan}
use Rattle.py_model.specs.declared.moment.Answer.{Answer as OneAnswer}
use Rattle.prov_base.specs.Path.{is_path}
use Rattle.prov_outside.specs.declared.folder.Found.{Found as FoundThere}
use Rattle.py_value.specs.Seen.{bytes_of}
use Rattle.py_value.specs.Values.{ValuesView, AreNamed}
use Rattle.py_value.specs.declared.access.Mode.{Mode}
use Rattle.py_value.specs.declared.access.Mode.TheVariants.{Read}
use Rattle.py_value.specs.declared.value.Value.{Value}
use Rattle.py_value.specs.declared.value.Value.TheVariants.{Text}

-- the path that is asked of has a number
module _ (values : ValuesView) where
  if_named : (path : ℕ) (b : Bool) → path < length values.texts → IfSome (if b then Some path else None) (λ p. p < length values.texts)
  if_named path true within = within
  if_named path false within = tt

  both_named : (path : ℕ) (b c : Bool) → path < length values.texts → IfSome (if b then (if c then Some path else None) else None) (λ p. p < length values.texts)
  both_named path true c within = if_named path c within
  both_named path false c within = tt

  fetched_named : (path : ℕ) (bytes : List ℕ) (mode : Option Mode) → path < length values.texts → IfSome (if_fetched path bytes mode) (λ p. p < length values.texts)
  fetched_named path bytes (Some mode) within = both_named path (is_path bytes) (is_fetched mode) within
  fetched_named path bytes None within = tt

  pub path_named : (operands : List Value) → AreNamed values operands → IfSome (path_in values operands) (λ p. p < length values.texts)
  path_named [] named = tt
  path_named (Text path ∷ []) named = fetched_named path (bytes_of values path) (Some Read) (named 0 (Text path) refl)
  path_named (other ∷ []) named = tt
  path_named (Text path ∷ Text mode ∷ []) named = fetched_named path (bytes_of values path) (mode_named (bytes_of values mode)) (named 0 (Text path) refl)
  path_named (Text path ∷ other ∷ []) named = tt
  path_named (other ∷ more ∷ []) named = tt
  path_named (Text path ∷ Text mode ∷ next ∷ more) named = tt
  path_named (Text path ∷ other ∷ next ∷ more) named = tt
  path_named (one ∷ other ∷ next ∷ more) named = tt

-- what is known where it was opened, or something was found there
abbrev known_path : Bool → Option FoundThere → Known
known_path opened (Some found) = record { given = λ what. None; found = λ path. Some (found_seen found); opened = λ path. opened }
known_path opened None = record { given = λ what. None; found = λ path. None; opened = λ path. opened }

pub some_told : (values : ValuesView) (path : Option ℕ) (opened : Bool) (found : Option FoundThere) → is_told path opened found ≡ true → (k : Known) × IsOpened k values path opened found
some_told values None opened found is = (known_path opened found, tt)
some_told values (Some path) true (Some found) is = (known_path true (Some found), (refl, tt))
some_told values (Some path) true None is = (known_path true None, (refl, tt))
some_told values (Some path) false (Some found) is = (known_path false (Some found), (refl, refl))
some_told values (Some path) false None is = absurd (false≢true is)

pub known_opens : (values : ValuesView) (operands : List Value) (path : Option ℕ) (opened : Bool) (found : Option FoundThere) → is_told path opened found ≡ true → path ≡ path_in values operands
    → {plan : Known → ValuesView → Plan} {a b : WorkView} {result : Result OneAnswer Stop}
    → ((k : Known) → IsOpened k values (path_in values operands) opened found → EndsAt (path_in values operands) (plan k) a b result)
    → (k : Known) × EndsAt (path_in values operands) (plan k) a b result
known_opens values operands path opened found is same ends = let known = some_told values path opened found is in (known.0, ends known.0 (subst (λ p. IsOpened known.0 values p opened found) same known.1))
