use Rattle.std.proofs.Common.{ap, map}
use Rattle.std.specs.String.{string_bytes}
use Rattle.now_top.specs.Restored.{restored}
use Rattle.now_top.proofs.Promising.{did_all, kept_run, wrote_prefix}
use Rattle.now_top.proofs.top.now.Goals as goal

pub returns-clause-status_0_did_all : goal.returns-clause-status_0_did_all
returns-clause-status_0_did_all g c = λ none zero told. did_all c.does_as_meant.ensures _ _ _ _ _ _ (c.answer.ensures.reply none).reply zero told

pub returns-clause-kept : goal.returns-clause-kept
returns-clause-kept g c = λ steps file arguments word at. kept_run c.keeps_trial.ensures _ _ _ _ _ _ (c.answer.ensures.reply (ap restored word)).reply steps file arguments word at

pub returns-clause-wrote_prefix : goal.returns-clause-wrote_prefix
returns-clause-wrote_prefix g c = λ none. wrote_prefix c.writes_prefixes.ensures _ _ _ _ _ _ (c.answer.ensures.reply none).reply

pub returns-clause-wrote_slice : goal.returns-clause-wrote_slice
returns-clause-wrote_slice g c = λ of tables word told zero. c.writes_slice.ensures (map string_bytes c.args.words.now) _ _ _ _ _ (c.answer.ensures.reply (ap restored word)).reply of tables word told zero

pub returns-clause-wrote_value : goal.returns-clause-wrote_value
returns-clause-wrote_value g c = λ of tables word told zero. c.writes_value.ensures (map string_bytes c.args.words.now) _ _ _ _ _ (c.answer.ensures.reply (ap restored word)).reply of tables word told zero

pub returns-clause-wrote_dataflow : goal.returns-clause-wrote_dataflow
returns-clause-wrote_dataflow g c = λ number tables word told zero. c.writes_dataflow.ensures (map string_bytes c.args.words.now) _ _ _ _ _ (c.answer.ensures.reply (ap restored word)).reply number tables word told zero

pub returns-clause-wrote_sources : goal.returns-clause-wrote_sources
returns-clause-wrote_sources g c = λ of tables word told zero. c.writes_sources.ensures (map string_bytes c.args.words.now) _ _ _ _ _ (c.answer.ensures.reply (ap restored word)).reply of tables word told zero

pub returns-clause-wrote_effects : goal.returns-clause-wrote_effects
returns-clause-wrote_effects g c = λ of tables word told zero. c.writes_effects.ensures (map string_bytes c.args.words.now) _ _ _ _ _ (c.answer.ensures.reply (ap restored word)).reply of tables word told zero

pub returns-clause-wrote_replay : goal.returns-clause-wrote_replay
returns-clause-wrote_replay g c = λ of tables word told zero. c.writes_replay.ensures (map string_bytes c.args.words.now) _ _ _ _ _ (c.answer.ensures.reply (ap restored word)).reply of tables word told zero

pub returns-clause-wrote_some_slice : goal.returns-clause-wrote_some_slice
returns-clause-wrote_some_slice g c = λ of word zero. c.writes_some_slice.ensures (map string_bytes c.args.words.now) _ _ _ _ _ (c.answer.ensures.reply (ap restored word)).reply of word zero

pub returns-clause-restored_whole : goal.returns-clause-restored_whole
returns-clause-restored_whole g c = λ number word zero. c.restores_trials.ensures number _ _ _ _ _ (c.answer.ensures.restores number word).of zero
