use Rattle.std.proofs.Common.{rules, ◌≡◌, ◌++◌, length, take}
use Rattle.trial_history.specs.Puts.{restored_line}
use Rattle.trial_history.proofs.Putting.{one_put, one_refused, one_short, taken_back}
use Rattle.trial_history.proofs.puts.put_file.Goals as goal

pub returns-then-is_err-clause-puts : goal.returns-then-is_err-clause-puts
returns-then-is_err-clause-puts g c =
    let same : c.tell.new.told.items ≡ c.args.told.now.items = search rules in
    one_short (c.args.path.now, c.args.bytes.now) _ _ _ _ same

pub returns-in-Ok-clause-puts : goal.returns-in-Ok-clause-puts
returns-in-Ok-clause-puts g c =
    let told : c.tell.new.told.items ≡ c.args.told.now.items ++ restored_line c.args.path.now = search rules in
    one_put c.args.path.now c.args.bytes.now _ _ _ _ _ _ c.in-Ok.field-0 told c.in-Ok.ensures.cause.counted c.in-Ok.ensures.put

pub returns-in-Err-clause-puts : goal.returns-in-Err-clause-puts
returns-in-Err-clause-puts g c =
    let told : c.tell.new.told.items ≡ c.args.told.now.items ++ restored_line c.args.path.now = search rules in
    let cut : c.truncate.new.self.items ≡ take (length c.args.told.now.items) c.tell.new.told.items = search rules in
    one_refused c.args.path.now c.args.bytes.now _ _ c.in-Err.trouble c.refusal.result _ _ _ _ c.refusal.ensures
    (taken_back c.args.told.now.items (restored_line c.args.path.now) c.tell.new.told.items c.truncate.new.self.items told cut) c.in-Err.ensures.cause.counted c.in-Err.ensures.put
