use Rattle.std.proofs.Common.{◌∙◌, ap, map, Err}
use Rattle.py_tree.specs.Erasure.{script_of}
use Rattle.replays.proofs.Texts.{text_told, lacking}
use Rattle.replays.proofs.replaying.replay_text.Goals as goal

pub returns-in-Ok-value_text-clause-text : goal.returns-in-Ok-value_text-clause-text
returns-in-Ok-value_text-clause-text c = λ one exact.
    text_told (script_of c.args.script.now) c.args.path.now c.args.arguments.now _ (ap (λ ks. map (λ k. k.now) ks) c.as_slice.ensures.value ∙ c.in-Ok.ensures) one c.args.budget c.args.at c.args.k
    c.in-Ok-rows_upto.told.rows c.as_slice-rows.result.now c.as_slice-rows.ensures c.in-Ok-rows_upto.told.is_whole (c.in-Ok-rows_upto.ensures.front one exact) _ _ c.in-Ok-value_text.ensures.text

pub returns-in-Err-NoEvaluation-clause-absent : goal.returns-in-Err-NoEvaluation-clause-absent
returns-in-Err-NoEvaluation-clause-absent c = λ answered one exact.
    lacking (script_of c.args.script.now) c.args.path.now c.args.arguments.now _ (ap (λ ks. map (λ k. k.now) ks) c.as_slice.ensures.value ∙ c.in-Ok.ensures) one c.args.budget c.args.at c.args.k
    c.in-Ok-rows_upto.told.rows c.as_slice-rows.result.now c.as_slice-rows.ensures c.in-Ok-rows_upto.told.is_whole (c.in-Ok-rows_upto.ensures.front one exact) c.if-told.true
    (c.in-Err-NoEvaluation.ensures.absent (ap Err c.in-Err-NoEvaluation.field-0-is))
