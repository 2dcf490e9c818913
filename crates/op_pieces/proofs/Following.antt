-- Items with commas between.
use Rattle.std.proofs.Common.{rules, ◌≡◌, sym, ap, ◌∙◌, append-nil, arith, ℕ, suc, ◌+◌, ◌==◌, Bool, true, false, List, [], ◌∷◌, ◌++◌, codes}
use Rattle.std.proofs.lemmas.List.{append_assoc}
use Rattle.py_model.specs.Printing.{behind_first}
use Rattle.spelling.specs.Spelling.{follow}
use Rattle.op_pieces.specs.Parts.{separator}

pub not_first : (i : ℕ) → (i + 1) == 0 ≡ false
not_first i = search rules

pub place : (i : ℕ) → suc i ≡ i + 1
place i = omega (arith)

joined : (text before key bytes behind : List ℕ) → text ++ (before ++ ((key ++ bytes) ++ behind)) ≡ (((text ++ before) ++ key) ++ bytes) ++ behind
joined text before key bytes behind = sym (append_assoc ((text ++ before) ++ key) bytes behind
    ∙ (append_assoc (text ++ before) key (bytes ++ behind)
    ∙ (append_assoc text before (key ++ (bytes ++ behind)) ∙ ap (λ words. text ++ (before ++ words)) (sym (append_assoc key bytes behind)))))

pub followed : (first : Bool) (text key bytes : List ℕ) (rest : List (List ℕ)) → text ++ follow first ((key ++ bytes) ∷ rest) ≡ (((text ++ separator first) ++ key) ++ bytes) ++ follow false rest
followed true text key bytes rest = joined text [] key bytes (behind_first (codes ", ") rest)
followed false text key bytes rest = joined text (codes ", ") key bytes (behind_first (codes ", ") rest)

pub follow_none : (first : Bool) (text : List ℕ) → text ++ follow first [] ≡ text
follow_none true text = append-nil text
follow_none false text = append-nil text
