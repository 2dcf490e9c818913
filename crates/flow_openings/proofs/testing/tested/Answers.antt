use Rattle.std.proofs.Common.{sym, ap, ◌∙◌}
use Rattle.std.specs.Option.{option_map}
use Rattle.py_tree.specs.Erasure.{expr_of, form_of}
use Rattle.py_value.specs.Contents.{contents}
use Rattle.py_model.specs.Act.{ret, normal}
use Rattle.flow_frames.specs.Machine.{now_act}
use Rattle.flow_frames.specs.Seen.{now_seen, part_seen}
use Rattle.flow_frames.proofs.Starting.{if_more}
use Rattle.flow_openings.proofs.Tests.{no_test, a_test}
use Rattle.flow_openings.proofs.testing.tested.Goals as goal

pub returns-in-None-clause-means : goal.returns-in-None-clause-means
returns-in-None-clause-means c = λ script next here table.
    no_test script next here (ret normal) c.args.part.stmt.now.pos (form_of c.args.part.stmt.now.form.value) c.args.number (contents table c.args.value)
    (sym c.test_in.ensures ∙ ap (option_map (λ e. expr_of e.now)) c.in-None.is)

pub returns-in-Some-clause-means : goal.returns-in-Some-clause-means
returns-in-Some-clause-means c = if_more c.on_one.result _ _ (λ now means. λ script next here table.
    a_test script next here (now_act script next here (now_seen table now)) c.args.part.stmt.now.pos (form_of c.args.part.stmt.now.form.value) c.args.number (contents table c.args.value)
    (expr_of c.in-Some.test.now) c.place_of.result (part_seen table c.to-next.result) (sym c.test_in.ensures ∙ ap (option_map (λ e. expr_of e.now)) c.in-Some.is)
    c.place_of.ensures (ap (part_seen table) c.to-next.ensures) (means script next here table)) c.on_one.ensures.means
