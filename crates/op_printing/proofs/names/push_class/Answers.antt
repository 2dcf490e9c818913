use Rattle.std.proofs.Common.{◌≡◌, refl, sym, ap, ◌∙◌, ℕ, List, codes}
use Rattle.prov_base.specs.declared.place.Pos.{Pos}
use Rattle.py_model.specs.Plan.{Plan}
use Rattle.py_model.specs.Printing.{class_name}
use Rattle.py_value.specs.Contents.{contents}
use Rattle.py_value.specs.Values.{ValuesView}
use Rattle.py_value.specs.declared.value.Value.{Value}
use Rattle.py_value.specs.declared.value.Value.TheVariants.{None as NoneValue, Bool, Int, Text, Tuple, Range, Fn, Class, Exc, Builtin, Object}
use Rattle.py_model.proofs.Tuples.{some_tuple}
use Rattle.op_printing.proofs.Putting.{puts_same, puts_words}
use Rattle.op_printing.proofs.names.push_class.Goals as goal

no_class : (table : ValuesView) (v : Value) (go : List ℕ → Plan) → ((place : Pos) → v ≡ Class place → ⊥) → ((number : ℕ) → v ≡ Exc number → ⊥) → class_name (contents table v) go ≡ go (codes "?")
no_class table (Class place) go class exc = absurd (class place refl)
no_class table (Exc number) go class exc = absurd (exc number refl)
no_class table (Tuple id) go class exc = ap (λ c. class_name c go) (some_tuple table id).1
no_class table NoneValue go class exc = refl
no_class table (Bool b) go class exc = refl
no_class table (Int i) go class exc = refl
no_class table (Text id) go class exc = refl
no_class table (Range a b c) go class exc = refl
no_class table (Fn place) go class exc = refl
no_class table (Builtin number) go class exc = refl
no_class table (Object o) go class exc = refl

pub returns-in-Class : goal.returns-in-Class
returns-in-Class c = puts_same (λ table. class_name (contents table c.args.of)) (λ table interned extends go. ap (λ v. class_name (contents table v) go) c.in-Class.is) c.push_noted.ensures

pub returns-in_ok-push_word-in-Exc : goal.returns-in_ok-push_word-in-Exc
returns-in_ok-push_word-in-Exc c = puts_words (λ table. class_name (contents table c.args.of)) c.args.work.now c.in_ok-push_word-in-Exc.ensures c.requires
    (λ table interned extends go. ap (λ v. class_name (contents table v) go) c.in-Exc.is ∙ ap go (sym c.class_word.ensures))

pub returns-in_ok-push_word-in_default : goal.returns-in_ok-push_word-in_default
returns-in_ok-push_word-in_default c = puts_words (λ table. class_name (contents table c.args.of)) c.args.work.now c.in_ok-push_word-in_default.ensures c.requires
    (λ table interned extends go. no_class table c.args.of go c.in_default.not-Class c.in_default.not-Exc)
