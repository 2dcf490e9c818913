-- No public clause cites this file.
-- What it is that the parts of a moment were named, and are written with numbers. It is the proof's means.
use Rattle.std.specs.Prelude.{◌≡◌, ℕ, List, ◌∷◌, Option, Some, None, ⊤}
use Rattle.std.specs.Option.{option_map}
use Rattle.py_value.specs.declared.access.Access.{Access}
use Rattle.py_value.specs.declared.access.Change.{Change}
use Rattle.py_value.specs.declared.access.Content.{Content}
use Rattle.py_value.specs.declared.access.Kind.{Kind}
use Rattle.py_value.specs.declared.access.Location.{Location}
use Rattle.py_value.specs.declared.value.Value.{Value}
use Rattle.py_value.specs.Contents.{Contents, contents}
use Rattle.py_value.specs.Seen.{SeenLocation, SeenContent, SeenChange, SeenAccess, SeenKind, location_seen, content_seen, change_seen, access_seen, kind_seen, location_at}
use Rattle.py_value.specs.Values.{ValuesView, IsNamed}
use Rattle.recorder.specs.Naming.{Naming, named_in_option, named_in_location, named_in_content, named_in_change, named_in_access, named_in_made, named_in_answer, named_in_moment, name_all}
use Rattle.recorder.specs.Numbers.{Extends, Numbers, NumbersAll}
use Rattle.recorder.specs.MomentRows.{numbered, numbered_content, numbered_change, numbered_access, numbered_kind, numbered_answer, row_of}
use Rattle.recorder.specs.Telling.{view_of, told_by}
use Rattle.py_model.specs.declared.moment.Answer.{Answer as OneAnswer}
use Rattle.py_model.specs.Moment.{Moment, ends}
use Rattle.py_model.specs.Plan.{Answer}
use Rattle.py_model.specs.Told.{answer_seen}
use Rattle.trace_rows.specs.declared.row.Row.{Row}

abbrev pub IsNamedOption : ValuesView → Option Value → Type 0
IsNamedOption view None = ⊤
IsNamedOption view (Some v) = IsNamed view v

abbrev pub NumbersOption : Option Contents → Naming → Naming → Option Value → Type 0
NumbersOption b old new x = Numbers (λ view. option_map (contents view)) (λ view c. Some (option_map (numbered view) c)) named_in_option b old new x

abbrev pub NumbersLocation : SeenLocation → Naming → Naming → Location → Type 0
NumbersLocation b old new x = Numbers location_seen location_at named_in_location b old new x

abbrev pub NumbersContent : SeenContent → Naming → Naming → Content → Type 0
NumbersContent b old new x = Numbers content_seen (λ view c. Some (numbered_content view c)) named_in_content b old new x

abbrev pub NumbersChange : SeenChange → Naming → Naming → Change → Type 0
NumbersChange b old new x = Numbers change_seen (λ view c. Some (numbered_change view c)) named_in_change b old new x

abbrev pub NumbersAccess : SeenAccess → Naming → Naming → Access → Type 0
NumbersAccess b old new x = Numbers access_seen (λ view c. Some (numbered_access view c)) named_in_access b old new x

abbrev pub NumbersAccesses : List SeenAccess → Naming → Naming → List Access → Type 0
NumbersAccesses b old new x = NumbersAll access_seen (λ view c. Some (numbered_access view c)) named_in_access b old new x

abbrev pub NumbersMade : Option SeenKind → Naming → Naming → Option Kind → Type 0
NumbersMade b old new x = Numbers (λ view. option_map (kind_seen view)) (λ view c. Some (option_map (numbered_kind view) c)) named_in_made b old new x

abbrev pub NumbersAnswer : Answer → Naming → Naming → OneAnswer → Type 0
NumbersAnswer b old new x = Numbers answer_seen (λ view c. Some (numbered_answer view c)) named_in_answer b old new x

-- the numbers of the statements that ended, the latest first, once a moment was told
abbrev pub ended_by : Moment → List ℕ → List ℕ
ended_by (ends statement ending) ended = statement ∷ ended
ended_by moment ended = ended

-- What the moment names was named in order, its row is this one, and the row tells the moment.
pub record IsRowOf (moment : Moment) (old new : Naming) (row : Row) : Type 0 where
  pub named : new ≡ name_all (named_in_moment moment) old
  pub extends : Extends old.view new.view
  pub written : row_of new.view moment ≡ row
  pub tells : (earlier : List Row) (ended : List ℕ) → view_of earlier ≡ new.view → told_by (row ∷ earlier) (ended_by moment ended) ≡ moment ∷ told_by earlier ended
