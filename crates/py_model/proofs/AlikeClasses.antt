-- Classes, their chains of bases, attributes and exceptions are alike for corresponding operands.
use Rattle.std.proofs.Common.{◌≡◌, ℕ, zero, suc, Bool, true, false, List, Option, Some, None, if◌then◌else◌, refl, sym, subst}
use Rattle.prov_base.specs.declared.place.Pos.{Pos}
use Rattle.py_value.specs.Contents.{Contents, class, exception_class}
use Rattle.py_value.specs.Same.{same_value}
use Rattle.py_model.proofs.AlikeComparing.{if_alike}
use Rattle.py_model.proofs.AlikeWalks.{same_renamed}
use Rattle.py_model.proofs.AlikePlans.{Allowed, AlikeBy, both_read_method, both_read_base, both_run_away}
use Rattle.py_model.specs.Classes.{longest_chain, is_earlier, next_class, derives, class_walk, chain_end, method_walk, end_of_chain, method_of_class}
use Rattle.py_model.specs.Plan.{Plan}
use Rattle.py_model.specs.Renaming.{Renaming, renamed, renamed_option}

module _ (may : Allowed) (r : Renaming) where
  next_renamed : (place : Pos) (base : Option Contents) → next_class place (renamed_option r base) ≡ renamed_option r (next_class place base)
  next_renamed place (Some (class base)) = by_test (is_earlier base place)
    where
      by_test : (b : Bool) → (if b then Some (class base) else None) ≡ renamed_option r (if b then Some (class base) else None)
      by_test true = refl
      by_test false = refl
  next_renamed place (Some (exception_class number)) = refl
  next_renamed place other = refl

  abbrev walk_on : (Contents → Plan) → Plan → Option Contents → Plan
  walk_on next stop None = stop
  walk_on next stop (Some v) = next v

  walk_on_alike : (next then_next : Contents → Plan) (stop then_stop : Plan) → ((v : Contents) → AlikeBy may r (next v) (then_next (renamed r v))) → AlikeBy may r stop then_stop
      → (place : Pos) (base : Option Contents) → AlikeBy may r (walk_on next stop (next_class place base)) (walk_on then_next then_stop (next_class place (renamed_option r base)))
  walk_on_alike next then_next stop then_stop each both place base =
      subst (λ v. AlikeBy may r (walk_on next stop (next_class place base)) (walk_on then_next then_stop v)) (sym (next_renamed place base)) (by_option (next_class place base))
    where
      by_option : (v : Option Contents) → AlikeBy may r (walk_on next stop v) (walk_on then_next then_stop (renamed_option r v))
      by_option None = both
      by_option (Some v) = each v

  class_walk_alike : (fuel : ℕ) (sought of : Contents) (go gone : Bool → Plan) → ((b : Bool) → AlikeBy may r (go b) (gone b))
      → AlikeBy may r (class_walk fuel sought of go) (class_walk fuel (renamed r sought) (renamed r of) gone)
  class_walk_alike zero sought of go gone each = both_run_away
  class_walk_alike (suc fuel) sought (class place) go gone each =
      if_alike may r (same_value sought (class place)) (same_value (renamed r sought) (class place)) _ _ _ _ (same_renamed r sought (class place)) (each true)
      (both_read_base (walk_on_alike (λ v. class_walk fuel sought v go) (λ v. class_walk fuel (renamed r sought) v gone) (go false) (gone false)
      (λ v. class_walk_alike fuel sought v go gone each) (each false) place))
  class_walk_alike (suc fuel) (exception_class from) (exception_class number) go gone each = each (derives 19 number from)
  class_walk_alike (suc fuel) sought other go gone each = each false

  chain_end_alike : (fuel : ℕ) (of : Contents) (go gone : Option ℕ → Plan) → ((end : Option ℕ) → AlikeBy may r (go end) (gone end))
      → AlikeBy may r (chain_end fuel of go) (chain_end fuel (renamed r of) gone)
  chain_end_alike zero of go gone each = both_run_away
  chain_end_alike (suc fuel) (class place) go gone each =
      both_read_base (walk_on_alike (λ v. chain_end fuel v go) (λ v. chain_end fuel v gone) (go None) (gone None) (λ v. chain_end_alike fuel v go gone each) (each None) place)
  chain_end_alike (suc fuel) (exception_class number) go gone each = each (Some number)
  chain_end_alike (suc fuel) other go gone each = each None

  abbrev method_or : (Option Pos → Plan) → Plan → Option Pos → Plan
  method_or go next (Some at) = go (Some at)
  method_or go next None = next

  method_or_alike : (go gone : Option Pos → Plan) (next then_next : Plan) → ((at : Option Pos) → AlikeBy may r (go at) (gone at)) → AlikeBy may r next then_next
      → (at : Option Pos) → AlikeBy may r (method_or go next at) (method_or gone then_next at)
  method_or_alike go gone next then_next each both (Some at) = each (Some at)
  method_or_alike go gone next then_next each both None = both

  method_walk_alike : (fuel : ℕ) (name : List ℕ) (of : Contents) (go gone : Option Pos → Plan) → ((at : Option Pos) → AlikeBy may r (go at) (gone at))
      → AlikeBy may r (method_walk fuel name of go) (method_walk fuel name (renamed r of) gone)
  method_walk_alike zero name of go gone each = both_run_away
  method_walk_alike (suc fuel) name (class place) go gone each =
      both_read_method (method_or_alike go gone _ _ each
      (both_read_base (walk_on_alike (λ v. method_walk fuel name v go) (λ v. method_walk fuel name v gone) (go None) (gone None) (λ v. method_walk_alike fuel name v go gone each) (each None) place)))
  method_walk_alike (suc fuel) name other go gone each = each None

  pub derived_alike : (sought of : Contents) (go gone : Bool → Plan) → ((b : Bool) → AlikeBy may r (go b) (gone b))
      → AlikeBy may r (class_walk longest_chain sought of go) (class_walk longest_chain (renamed r sought) (renamed r of) gone)
  derived_alike sought of go gone each = class_walk_alike longest_chain sought of go gone each

  pub end_alike : (of : Contents) (go gone : Option ℕ → Plan) → ((end : Option ℕ) → AlikeBy may r (go end) (gone end)) → AlikeBy may r (end_of_chain of go) (end_of_chain (renamed r of) gone)
  end_alike of go gone each = chain_end_alike longest_chain of go gone each

  pub method_alike : (name : List ℕ) (of : Contents) (go gone : Option Pos → Plan) → ((at : Option Pos) → AlikeBy may r (go at) (gone at))
      → AlikeBy may r (method_of_class name of go) (method_of_class name (renamed r of) gone)
  method_alike name of go gone each = method_walk_alike longest_chain name of go gone each
