-- No public clause cites this file.
-- Texts with another between them.
use Rattle.std.specs.Prelude.{ℕ, Bool, true, false, List, [], ◌∷◌, ◌++◌}
use Rattle.py_model.specs.Texts.{joined_by}

-- what stands before a text, the first or another
abbrev pub before_text : Bool → List ℕ → List ℕ
before_text true separator = []
before_text false separator = separator

-- texts behind others, or as the first
abbrev pub behind : List ℕ → List (List ℕ) → List ℕ
behind separator [] = []
behind separator (text ∷ texts) = separator ++ joined_by separator (text ∷ texts)

abbrev pub joined_on : Bool → List ℕ → List (List ℕ) → List ℕ
joined_on true separator texts = joined_by separator texts
joined_on false separator texts = behind separator texts
