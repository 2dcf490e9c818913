use Rattle.std.proofs.Common.{sym, ap, ◌∙◌}
use Rattle.std.specs.Option.{option_map}
use Rattle.py_tree.specs.Erasure.{expr_of, form_of}
use Rattle.flow_frames.specs.Machine.{now_act}
use Rattle.flow_frames.specs.Seen.{now_seen}
use Rattle.flow_frames.proofs.Starting.{if_more}
use Rattle.flow_openings.proofs.Beginnings.{begins, begins_plainly}
use Rattle.flow_openings.proofs.opening.opened.Goals as goal

pub returns-in-None-clause-means : goal.returns-in-None-clause-means
returns-in-None-clause-means c = if_more c.plainly.result _ _ (λ now means. λ script next here table stands.
    begins_plainly script next here c.args.stmt.now.pos (form_of c.args.stmt.now.form.value) (now_act script next here (now_seen table now))
    (sym (ap (option_map (λ e. expr_of e.now)) c.in-None.is) ∙ c.first_in.ensures) (means script next here table stands)) c.plainly.ensures.means

pub returns-in-Some-clause-means : goal.returns-in-Some-clause-means
returns-in-Some-clause-means c = if_more c.start.result _ _ (λ now means. λ script next here table stands.
    begins script next here c.args.stmt.now.pos (form_of c.args.stmt.now.form.value) (expr_of c.in-Some.e.now) (now_act script next here (now_seen table now))
    (sym (ap (option_map (λ e. expr_of e.now)) c.in-Some.is) ∙ c.first_in.ensures) (means script next here table)) c.start.ensures.means
