-- No public clause cites this file.
-- Texts that are made and put behind values, and the words of a text.
use Rattle.std.specs.Prelude.{◌≡◌, ℕ, suc, List, [], ◌∷◌, ◌++◌, map, Result, OnOk, if◌then◌else◌}
use Rattle.op_work.specs.Work.{WorkView, Comes, Extends, is_any, as_is}
use Rattle.op_work.specs.declared.stop.Stop.{Stop}
use Rattle.py_model.specs.Plan.{Plan, counts}
use Rattle.py_model.specs.TextMethods.{total_size}
use Rattle.py_model.specs.Texts.{is_white}
use Rattle.py_value.specs.Contents.{contents, text}
use Rattle.py_value.specs.Values.{ValuesView, AreNamed}
use Rattle.py_value.specs.declared.value.Value.{Value}

-- The characters of texts are counted, and the texts stand behind the values that were there.
pub record Puts (all : List (List ℕ)) (before after : List Value) (old new : WorkView) (result : Result (Unit {0}) Stop) : Type 0 where
  pub comes : Comes is_any as_is (λ table (go : Unit {0} → Plan). counts (total_size all) (go tt)) old new result
  pub named : OnOk result (AreNamed old.values before → AreNamed new.values after)
  pub texts_are : OnOk result ((table : ValuesView) → Extends new.values table → map (contents table) after ≡ map (contents table) before ++ map text all)

-- how many bytes stand before the first white space
abbrev pub word_end : List ℕ → ℕ
word_end [] = 0
word_end (byte ∷ bytes) = if is_white byte then 0 else suc (word_end bytes)
