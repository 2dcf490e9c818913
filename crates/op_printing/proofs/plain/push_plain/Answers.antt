use Rattle.std.proofs.Common.{◌≡◌, refl, sym, ap, ◌∙◌, ℕ, List, Bool as Truth}
use Rattle.prov_base.specs.declared.place.Pos.{Pos}
use Rattle.py_model.specs.Plan.{Plan}
use Rattle.py_value.specs.Contents.{contents}
use Rattle.py_value.specs.Values.{ValuesView}
use Rattle.py_value.specs.declared.value.Value.{Value}
use Rattle.py_value.specs.declared.value.Value.TheVariants.{None as NoneValue, Bool, Int, Text, Tuple, Range, Fn, Class, Exc, Builtin, Object}
use Rattle.py_model.proofs.Tuples.{some_tuple}
use Rattle.op_printing.specs.Forms.{print_plain}
use Rattle.op_pieces.specs.Pieces.{one_piece}
use Rattle.op_printing.proofs.Putting.{puts_same, puts_piece}
use Rattle.op_printing.proofs.plain.push_plain.Goals as goal

one_is : (table : ValuesView) (quoted : Truth) (v : Value) (go : List ℕ → Plan) → ((place : Pos) → v ≡ Fn place → ⊥) → ((place : Pos) → v ≡ Class place → ⊥)
    → print_plain quoted (contents table v) go ≡ go (one_piece table quoted v)
one_is table quoted (Fn place) go fn class = absurd (fn place refl)
one_is table quoted (Class place) go fn class = absurd (class place refl)
one_is table quoted (Tuple id) go fn class = ap (λ c. print_plain quoted c go) (some_tuple table id).1
one_is table quoted (Exc number) go fn class = refl
one_is table quoted NoneValue go fn class = refl
one_is table quoted (Bool b) go fn class = refl
one_is table quoted (Int i) go fn class = refl
one_is table quoted (Text id) go fn class = refl
one_is table quoted (Range a b c) go fn class = refl
one_is table quoted (Builtin number) go fn class = refl
one_is table quoted (Object o) go fn class = refl

pub returns-in-Fn : goal.returns-in-Fn
returns-in-Fn c = puts_same (λ table. print_plain c.args.quoted (contents table c.args.v)) (λ table interned extends go. ap (λ v. print_plain c.args.quoted (contents table v) go) c.in-Fn.is) c.push_angled.ensures

pub returns-in-Class : goal.returns-in-Class
returns-in-Class c = puts_same (λ table. print_plain c.args.quoted (contents table c.args.v)) (λ table interned extends go. ap (λ v. print_plain c.args.quoted (contents table v) go) c.in-Class.is) c.push_angled-in-Class.ensures

pub returns-in_ok-push-in_default : goal.returns-in_ok-push-in_default
returns-in_ok-push-in_default c = puts_piece (λ table. print_plain c.args.quoted (contents table c.args.v)) c.args.work.now c.args.out.now.items c.push.new.out.items c.plain_piece.result
    c.in_ok-push-in_default.ensures c.requires.pieces (c.plain_piece.ensures.named c.args.work.now.values c.requires.named)
    (λ table interned extends go. one_is table c.args.quoted c.args.v go c.in_default.not-Fn c.in_default.not-Class ∙ ap go (sym (c.plain_piece.ensures.bytes table)))
