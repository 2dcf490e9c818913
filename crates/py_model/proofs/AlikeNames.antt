-- Constants, names and what binds them are alike in corresponding activations.
use Rattle.std.proofs.Common.{◌≡◌, ℕ, zero, suc, Bool, true, false, List, Option, Some, None, option_map, refl, sym, subst, ◌∙◌, arith, codes}
use Rattle.std.specs.Str.{bytes_eq}
use Rattle.py_value.specs.Contents.{Contents, nothing, exception_class, builtin, object}
use Rattle.py_value.specs.Seen.{SeenKind, number_by, a_file, closed_at, closed_is}
use Rattle.py_model.proofs.AlikeWalks.{wrong_kind_alike, fault_alike}
use Rattle.py_model.proofs.AlikePlans.{Allowed, AlikeBy, both_read_var, both_read_closed, both_kind, both_writes, both_write, both_done}
use Rattle.py_model.specs.Faults.{fault, value_error, wrong_kind}
use Rattle.py_model.specs.Names.{builtin_names, class_names, unset_name, const, load_unset, load, give, bind, unset, unbind, begin_with, end_with}
use Rattle.py_model.specs.Plan.{Plan, read_closed, write, done, writes}
use Rattle.py_model.specs.Renaming.{Renaming, renamed, renamed_option, renamed_kind}

module _ (may : Allowed) (r : Renaming) where
  pub const_alike : (v : Contents) → AlikeBy may r (const v) (const (renamed r v))
  const_alike v = both_writes (both_done refl)

  pub give_alike : (v : Contents) → AlikeBy may r (give v) (give (renamed r v))
  give_alike v = both_writes (both_done refl)

  pub bind_alike : (scope : ℕ) (name : List ℕ) (v : Contents) → AlikeBy may r (bind scope name v) (bind (r.scopes scope) name (renamed r v))
  bind_alike scope name v = both_writes (both_write tt refl refl (both_done refl))

  -- the activation of the module stays, and no other becomes it
  not_module : (n : ℕ) → r.scopes (suc n) ≡ 0 → ⊥
  not_module n is = never (r.one_scope (suc n) 0 (is ∙ sym r.module_stays))
    where
      never : suc n ≡ 0 → ⊥
      never same = omega (arith, same)

  pub by_scope : (plan : ℕ → Plan) → AlikeBy may r (plan 0) (plan 0) → ((m n : ℕ) → AlikeBy may r (plan (suc m)) (plan (suc n))) → (scope : ℕ) → AlikeBy may r (plan scope) (plan (r.scopes scope))
  by_scope plan of_module of_local zero = subst (λ s. AlikeBy may r (plan 0) (plan s)) (sym r.module_stays) of_module
  by_scope plan of_module of_local (suc m) = by_image (r.scopes (suc m)) refl
    where
      by_image : (s : ℕ) → r.scopes (suc m) ≡ s → AlikeBy may r (plan (suc m)) (plan s)
      by_image zero is = absurd (not_module m is)
      by_image (suc n) is = of_local m n

  unset_name_alike : (scope : ℕ) (name : List ℕ) → AlikeBy may r (unset_name scope name) (unset_name (r.scopes scope) name)
  unset_name_alike scope name = by_scope (λ s. unset_name s name) (fault_alike may r _ _) (λ m n. fault_alike may r _ _) scope

  abbrev known_by : Option ℕ → Option ℕ → Option Contents
  known_by other (Some number) = Some (builtin number)
  known_by other None = option_map exception_class other

  abbrev load_known : List ℕ → Option Contents → Plan
  load_known name None = unset_name zero name
  load_known name (Some v) = writes (done v)

  load_known_alike : (name : List ℕ) (other one : Option ℕ) → AlikeBy may r (load_known name (known_by other one)) (load_known name (known_by other one))
  load_known_alike name other (Some number) = both_writes (both_done refl)
  load_known_alike name (Some number) None = both_writes (both_done refl)
  load_known_alike name None None = fault_alike may r _ _

  load_unset_alike : (scope : ℕ) (name : List ℕ) → AlikeBy may r (load_unset scope name) (load_unset (r.scopes scope) name)
  load_unset_alike scope name = by_scope (λ s. load_unset s name)
      (load_known_alike name (number_by (bytes_eq name) class_names) (number_by (bytes_eq name) builtin_names)) (λ m n. fault_alike may r _ _) scope

  pub load_alike : (scope : ℕ) (name : List ℕ) → AlikeBy may r (load scope name) (load (r.scopes scope) name)
  load_alike scope name = both_read_var by_option
    where
      by_option : (v : Option Contents) → AlikeBy may r (elim v as (λ w. Plan) [ None ↦ load_unset scope name | Some w ↦ writes (done w) ])
          (elim (renamed_option r v) as (λ w. Plan) [ None ↦ load_unset (r.scopes scope) name | Some w ↦ writes (done w) ])
      by_option None = load_unset_alike scope name
      by_option (Some v) = both_writes (both_done refl)

  unset_alike : (scope : ℕ) (name : List ℕ) → AlikeBy may r (unset scope name) (unset (r.scopes scope) name)
  unset_alike scope name = both_writes (both_write tt refl refl (both_done refl))

  pub unbind_alike : (silent : Bool) (scope : ℕ) (name : List ℕ) → AlikeBy may r (unbind silent scope name) (unbind silent (r.scopes scope) name)
  unbind_alike true scope name = both_read_var (λ v. unset_alike scope name)
  unbind_alike false scope name = both_read_var by_option
    where
      by_option : (v : Option Contents) → AlikeBy may r (elim v as (λ w. Plan) [ None ↦ unset_name scope name | Some w ↦ unset scope name ])
          (elim (renamed_option r v) as (λ w. Plan) [ None ↦ unset_name (r.scopes scope) name | Some w ↦ unset (r.scopes scope) name ])
      by_option None = unset_name_alike scope name
      by_option (Some v) = unset_alike scope name

  -- `with`
  abbrev open_file : ℕ → Bool → Plan
  open_file n true = fault value_error (codes "file is closed")
  open_file n false = writes (done (object n))

  open_file_alike : (n : ℕ) (b : Bool) → AlikeBy may r (open_file n b) (open_file (r.objects n) b)
  open_file_alike n true = fault_alike may r _ _
  open_file_alike n false = both_writes (both_done refl)

  abbrev begun_with : ℕ → Option SeenKind → Plan
  begun_with n (Some (a_file path mode)) = read_closed n (open_file n)
  begun_with n other = wrong_kind

  begun_with_alike : (n : ℕ) (kind : Option SeenKind) → AlikeBy may r (begun_with n kind) (begun_with (r.objects n) (option_map (renamed_kind r) kind))
  begun_with_alike n (Some (a_file path mode)) = both_read_closed (open_file_alike n)
  begun_with_alike n other = wrong_kind_alike may r

  pub begin_with_alike : (v : Contents) → AlikeBy may r (begin_with v) (begin_with (renamed r v))
  begin_with_alike (object o) = both_kind (begun_with_alike o)
  begin_with_alike other = wrong_kind_alike may r

  abbrev closed_with : ℕ → Option SeenKind → Plan
  closed_with n (Some (a_file path mode)) = writes (write (closed_at n) (closed_is true) (done nothing))
  closed_with n other = wrong_kind

  closed_with_alike : (n : ℕ) (kind : Option SeenKind) → AlikeBy may r (closed_with n kind) (closed_with (r.objects n) (option_map (renamed_kind r) kind))
  closed_with_alike n (Some (a_file path mode)) = both_writes (both_write tt refl refl (both_done refl))
  closed_with_alike n other = wrong_kind_alike may r

  pub end_with_alike : (v : Contents) → AlikeBy may r (end_with v) (end_with (renamed r v))
  end_with_alike (object o) = both_kind (closed_with_alike o)
  end_with_alike other = wrong_kind_alike may r
