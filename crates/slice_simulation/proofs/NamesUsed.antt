-- No kept statement of a run uses a name that is local in its function and not in what is kept of that. What such a name was set by, or the first
-- statement that binds it, would be kept.
use Rattle.std.proofs.Common.{◌≡◌, ℕ, zero, suc, Bool, true, false, ◌⊎◌, List, [], ◌∷◌, ◌++◌, Option, Some, inl, inr, refl, sym, ap, subst, ◌∙◌, append_assoc}
use Rattle.std.specs.List.{list_any}
use Rattle.std.specs.Str.{bytes_eq}
use Rattle.std.proofs.lemmas.Bool.{false≢true}
use Rattle.prov_base.specs.declared.place.Pos.{Pos}
use Rattle.py_tree.specs.Binds.{binds}
use Rattle.py_tree.specs.Functions.{Function, function_at}
use Rattle.py_tree.specs.Owners.{statements}
use Rattle.py_tree.specs.Placed.{number_on}
use Rattle.py_tree.specs.Tree.{ScriptTree}
use Rattle.py_tree.specs.WellFormed.{IsWellFormed}
use Rattle.py_value.specs.Contents.{Contents}
use Rattle.py_value.specs.Seen.{SeenAccess, SeenKind, var_at, reads}
use Rattle.py_model.specs.Act.{Walked}
use Rattle.py_model.specs.Capture.{Capture, opening_in, answers_at}
use Rattle.py_model.specs.Effect.{Answers, effect, accesses_in, weight}
use Rattle.py_model.specs.Moment.{Moment, does}
use Rattle.py_model.specs.Names.{unbind}
use Rattle.py_model.specs.Occurrences.{reach, owner_stmt}
use Rattle.py_model.specs.Operations.{Op, is_silent, plan}
use Rattle.py_model.specs.Plan.{Answer}
use Rattle.py_model.specs.Running.{State, did, askings_at, effect_of, operation}
use Rattle.py_model.specs.Store.{RunStore}
use Rattle.slice_law.specs.Closed.{StmtSet, IsIn, IsClosed}
use Rattle.slice_law.specs.Edges.{function_of_stmt, first_binder}
use Rattle.slice_law.specs.Slices.{told_by}
use Rattle.slice_simulation.proofs.Beside.{OnName, on_read, on_bind, on_unbind, on_import}
use Rattle.slice_simulation.proofs.BoundReads.{def_of, def_stays_on, none_enters_module, IsOf, is_of}
use Rattle.slice_simulation.proofs.BoundRuns.{NameLaws, own_names, reached_bound}
use Rattle.slice_simulation.proofs.Closedness.{reached_kept, binder_kept}
use Rattle.slice_simulation.proofs.Onwards.{Came, CameBy, came_by}
use Rattle.slice_simulation.proofs.LostLocals.{number_starts, one_place, LostName}
use Rattle.slice_simulation.specs.BoundNames.{OwnNames, location_of, is_write, IsBoundAt, by_statement, by_parameter}

-- an operation on a name reads or sets it in its scope
record UsesName (store : RunStore) (answers : Answers) (p : Op) (vs : List Contents) : Type 0 where
  access : SeenAccess
  there : IsIn (accesses_in (effect store answers (plan p vs)).touches) access
  place_is : location_of access ≡ var_at p.scope p.name
  how : (is_write access ≡ true) ⊎ (access ≡ reads (var_at p.scope p.name))

uses_name : (store : RunStore) (answers : Answers) (number : ℕ) (vs : List Contents) → OnName number vs → (scope : ℕ) (name : List ℕ) (v : Contents)
    → UsesName store answers (record { no = number; scope = scope; name = name; value = v }) vs
uses_name store answers _ _ on_read scope name v = record { access = _; there = inl refl; place_is = refl; how = inr refl }
uses_name store answers _ _ on_bind scope name v = record { access = _; there = inl refl; place_is = refl; how = inl refl }
uses_name store answers _ _ on_import scope name v = record { access = _; there = inl refl; place_is = refl; how = inl refl }
uses_name store answers _ _ on_unbind scope name v = record { access = reads (var_at scope name); there = by_silent (is_silent v); place_is = refl; how = inr refl }
  where
    by_silent : (silent : Bool) → IsIn (accesses_in (effect store answers (unbind silent scope name)).touches) (reads (var_at scope name))
    by_silent true = inl refl
    by_silent false = inl refl

same_some : {A : Type 0} (x y : A) → Some x ≡ Some y → x ≡ y
same_some x y is = cc

module _ (laws : NameLaws) (script : ScriptTree) (well : IsWellFormed script) where
  module _ (capture : Capture) (path : List ℕ) (arguments : List (List ℕ)) (steps : ℕ) (keep : StmtSet) (upto : List Moment) (closed : IsClosed script (opening_in capture path arguments) upto keep)
      (rest : List Moment) (told_is : told_by script capture path arguments steps ≡ rest ++ upto) where
    module _ (news : List Moment) (at : Pos) (p : Op) (vs : List Contents) (s u : State) (answer : Answer) (came : Walked) (n : ℕ) (f : Function) (number : ℕ)
        (happens : operation capture at p vs s ≡ did answer came u) (upto_is : upto ≡ news ++ u.told) (owner : owner_stmt s.told ≡ Some n) (kept : keep n ≡ true) (on : OnName p.no vs)
        (f_is : function_at script f.place ≡ Some f) (number_is : number_on script f.place ≡ Some number) (lost : LostName keep script f number p.name) where
      came_so : Came at p vs (effect_of capture at p vs s) s answer u
      came_so = subst (CameBy at p vs (effect_of capture at p vs s) s) happens (came_by capture at p vs s)

      abbrev made : Option SeenKind
      made = (effect_of capture at p vs s).made

      abbrev accesses : List SeenAccess
      accesses = accesses_in (effect_of capture at p vs s).touches

      abbrev size : ℕ
      size = weight (effect_of capture at p vs s)

      abbrev moment : Moment
      moment = does at p.no vs answer made accesses size

      whole : upto ≡ news ++ moment ∷ s.told
      whole = upto_is ∙ ap (λ (told : List Moment). news ++ told) came_so.told_is

      told_whole : told_by script capture path arguments steps ≡ (rest ++ news) ++ moment ∷ s.told
      told_whole = told_is ∙ (ap (λ (told : List Moment). rest ++ told) whole ∙ sym (append_assoc rest news (moment ∷ s.told)))

      own : OwnNames script moment s.told
      own = own_names laws script capture path arguments steps well (rest ++ news) s.told moment told_whole refl

      own_is : own.owner ≡ n
      own_is = same_some own.owner n (sym own.owner_is ∙ owner)

      uses : UsesName s.store (answers_at capture at (suc (askings_at at s.askings))) p vs
      uses = uses_name s.store (answers_at capture at (suc (askings_at at s.askings))) p.no vs on p.scope p.name p.value

      by_scope : (scope : ℕ) → p.scope ≡ scope → def_of p.scope upto ≡ Some f.place → ⊥
      by_scope zero is entered = none_enters_module upto f.place (subst (λ a. def_of a upto ≡ Some f.place) is entered)
      by_scope (suc a) is entered = by_how uses.how
        where
          place_is : location_of uses.access ≡ var_at (suc a) p.name
          place_is = uses.place_is ∙ ap (λ scope. var_at scope p.name) is

          one : IsOf script (suc a) s.told
          one = is_of script (suc a) s.told (own.each uses.access uses.there a p.name place_is).0

          def_is : one.def ≡ f.place
          def_is = same_some one.def f.place
              (sym (ap (def_of (suc a)) (whole ∙ sym (append_assoc news (moment ∷ []) s.told)) ∙ def_stays_on (news ++ moment ∷ []) s.told (suc a) one.def one.entered)
              ∙ subst (λ scope. def_of scope upto ≡ Some f.place) is entered)

          function_is : function_of_stmt script n ≡ Some number
          function_is = ap (function_of_stmt script) (sym own_is) ∙ (own.function_is ∙ (one.number_is ∙ (ap (number_on script) def_is ∙ number_is)))

          read_there : uses.access ≡ reads (var_at p.scope p.name) → IsIn accesses (reads (var_at (suc a) p.name))
          read_there same = subst (λ scope. IsIn accesses (reads (var_at scope p.name))) is (subst (IsIn accesses) same uses.there)

          by_bound : IsIn accesses (reads (var_at (suc a) p.name)) → (time : ℕ) → IsIn (reach (var_at (suc a) p.name) s.told) time → IsBoundAt script n p.name time s.told → ⊥
          by_bound there time reached (by_statement m stmt_is binds_it same) =
              false≢true (sym (lost.unbound m (same ∙ function_is)
              (reached_kept keep script (opening_in capture path arguments) upto closed news s.told at p.no vs answer made accesses size n (var_at (suc a) p.name) time m whole owner kept there reached stmt_is)) ∙ binds_it)
          by_bound there time reached (by_parameter g g_is same is_one) =
              let places_are : g.place ≡ f.place = one_place script well number g.place f.place (number_starts script well g.place number (same ∙ function_is)) (number_starts script well f.place number number_is) in
              let same_function : g ≡ f = same_some g f (sym g_is ∙ (ap (function_at script) places_are ∙ f_is)) in
              false≢true (sym lost.no_param ∙ subst (λ (h : Function). list_any (bytes_eq p.name) h.params ≡ true) same_function is_one)

          by_reach : IsIn accesses (reads (var_at (suc a) p.name)) → (times : List ℕ) → reach (var_at (suc a) p.name) s.told ≡ times → ⊥
          by_reach there [] none =
              false≢true (sym lost.out ∙ binder_kept keep script (opening_in capture path arguments) upto closed news s.told at p.no vs answer made accesses size n a lost.binder p.name whole owner kept there none
              (ap (λ found. first_binder found p.name (statements script)) function_is ∙ lost.first))
          by_reach there (time ∷ times) some =
              let reached : IsIn (reach (var_at (suc a) p.name) s.told) time = subst (λ times. IsIn times time) (sym some) (inl refl) in
              by_bound there time reached
              (reached_bound laws script capture path arguments steps well (rest ++ news) s.told at p.no vs answer made accesses size told_whole n owner a p.name there time reached)

          by_how : (is_write uses.access ≡ true) ⊎ (uses.access ≡ reads (var_at p.scope p.name)) → ⊥
          by_how (inl writes) =
              false≢true (sym (lost.unbound n function_is kept) ∙ subst (λ m. binds script m p.name ≡ true) own_is ((own.each uses.access uses.there a p.name place_is).1 writes))
          by_how (inr same) = by_reach (read_there same) (reach (var_at (suc a) p.name) s.told) refl

      pub never_lost : def_of p.scope upto ≡ Some f.place → ⊥
      never_lost entered = by_scope p.scope refl entered
