-- The writes of a dictionary's pairs, and what pairs are over contents.
use Rattle.std.proofs.Common.{◌≡◌, ◌∙◌, refl, sym, ap, subst, arith, ℕ, zero, suc, ◌+◌, ◌<◌, ◌≤◌, length, List, [], ◌∷◌, map, drop, slice_index_or, Some}
use Rattle.std.proofs.Math.Path.{fun_ext}
use Rattle.op_mutations.specs.declared.pairs.Pair.{Pair}
use Rattle.op_mutations.specs.Pairs.{ArePairs, IsPair, pair_seen, pairs_seen, firsts, entries_set}
use Rattle.op_dicts.proofs.FoundEnds.{key_kept}
use Rattle.op_work.proofs.EntryReads.{ContentsStay, form_on, named_on}
use Rattle.op_work.specs.Work.{Extends}
use Rattle.py_model.specs.Dicts.{new_dict, set_entries}
use Rattle.py_model.specs.Plan.{Writes, write, done, makes}
use Rattle.py_value.specs.Contents.{Contents, contents, object}
use Rattle.py_value.specs.Seen.{a_dict, order_at, order_is, entry_at, entry_is}
use Rattle.py_value.specs.Values.{ValuesView, AreInterned, IsNamed, AreNamed}
use Rattle.py_value.specs.declared.value.Value.{Value}
use Rattle.py_value.specs.declared.value.Value.TheVariants.{None as NoneValue}

-- what is read of pairs past their end
abbrev pub no_pair : Pair
no_pair = record { key = record { value = NoneValue }; first = NoneValue; item = NoneValue }

pub next_pair : (ps : List Pair) (i : ℕ) → i < length ps → drop i ps ≡ slice_index_or ps i no_pair ∷ drop (i + 1) ps
next_pair ps i less = by_suc ps i less ∙ ap (λ k. slice_index_or ps i no_pair ∷ drop k ps) (one i)
  where
    one : (i : ℕ) → suc i ≡ i + 1
    one i = omega (arith)

    by_suc : (ps : List Pair) (i : ℕ) → i < length ps → drop i ps ≡ slice_index_or ps i no_pair ∷ drop (suc i) ps
    by_suc [] i less = absurd (omega (arith, less))
    by_suc (p ∷ ps) zero less = refl
    by_suc (p ∷ ps) (suc i) less = by_suc ps i (omega (arith, less))

pub past_pairs : (ps : List Pair) (i : ℕ) → length ps ≤ i → drop i ps ≡ []
past_pairs [] zero past = refl
past_pairs [] (suc i) past = refl
past_pairs (p ∷ ps) zero past = absurd (omega (arith, past))
past_pairs (p ∷ ps) (suc i) past = past_pairs ps i (omega (arith, past))

-- the pair at a place is one of named values
pub pair_at : (values : ValuesView) (ps : List Pair) → ArePairs values ps → (i : ℕ) → i < length ps → IsPair values (slice_index_or ps i no_pair)
pair_at values [] are i less = absurd (omega (arith, less))
pair_at values (p ∷ ps) are zero less = are.0
pair_at values (p ∷ ps) are (suc i) less = pair_at values ps are.1 i (omega (arith, less))

-- what is left to be set behind so many
abbrev pub left : ℕ → List Pair → ℕ → ValuesView → Writes → Writes
left o ps i table = entries_set o table (drop i ps)

pub left_is : (o : ℕ) (ps : List Pair) (i : ℕ) → i < length ps → (table : ValuesView) (end : Writes)
    → left o ps i table end ≡ write (entry_at o (contents table (slice_index_or ps i no_pair).key.value)) (entry_is (Some (pair_seen table (slice_index_or ps i no_pair)))) (left o ps (i + 1) table end)
left_is o ps i less table end = ap (λ qs. entries_set o table qs end) (next_pair ps i less)

pub left_none : (o : ℕ) (ps : List Pair) (i : ℕ) → length ps ≤ i → (table : ValuesView) (end : Writes) → left o ps i table end ≡ end
left_none o ps i past table end = ap (λ qs. entries_set o table qs end) (past_pairs ps i past)

same : (w v : Value) → Some w ≡ Some v → w ≡ v
same w v is = cc

pub firsts_named : (values : ValuesView) (ps : List Pair) → ArePairs values ps → AreNamed values (firsts ps)
firsts_named values [] are i v is = cc
firsts_named values (p ∷ ps) are zero v is = subst (IsNamed values) (same p.first v is) are.0.0.0
firsts_named values (p ∷ ps) are (suc i) v is = firsts_named values ps are.1 i v is

module _ (stay : ContentsStay) {old table : ValuesView} (interned : AreInterned old) (extends : Extends old table) where
  pub pairs_on : (ps : List Pair) → ArePairs old ps → ArePairs table ps
  pairs_on [] are = tt
  pairs_on (p ∷ ps) are = ((key_kept stay interned extends p.first p.key are.0.0, named_on extends p.item are.0.1), pairs_on ps are.1)

  entries_are : (o : ℕ) (ps : List Pair) → ArePairs old ps → (end : Writes) → set_entries o (pairs_seen table ps) end ≡ entries_set o table ps end
  entries_are o [] are end = refl
  entries_are o (p ∷ ps) are end = ap (λ (k : Contents). write (entry_at o k) (entry_is (Some (pair_seen table p))) (set_entries o (pairs_seen table ps) end)) (sym (form_on stay interned extends p.first p.key are.0.0))
      ∙ ap (λ rest. write (entry_at o (contents table p.key.value)) (entry_is (Some (pair_seen table p))) rest) (entries_are o ps are.1 end)

  firsts_are : (ps : List Pair) → map (λ (pair : Contents × Contents). pair.0) (pairs_seen table ps) ≡ map (contents table) (firsts ps)
  firsts_are [] = refl
  firsts_are (p ∷ ps) = ap (λ cs. contents table p.first ∷ cs) (firsts_are ps)

  pub dict_is : (ps : List Pair) → ArePairs old ps
      → new_dict (pairs_seen table ps) ≡ makes a_dict (λ o. write (order_at o) (order_is (map (contents table) (firsts ps))) (entries_set o table ps (done (object o))))
  dict_is ps are = ap (makes a_dict) (fun_ext (λ o. ap (λ ks. write (order_at o) (order_is ks) (set_entries o (pairs_seen table ps) (done (object o)))) (firsts_are ps)
      ∙ ap (λ rest. write (order_at o) (order_is (map (contents table) (firsts ps))) rest) (entries_are o ps are (done (object o)))))
