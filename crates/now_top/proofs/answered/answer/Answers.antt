use Rattle.std.proofs.Common.{map}
use Rattle.std.specs.String.{string_bytes}
use Rattle.now_top.proofs.answered.answer.Goals as goal

pub returns-in-Err-clause-restores : goal.returns-in-Err-clause-restores
returns-in-Err-clause-restores g c = λ number word. c.close_short.ensures.restores number

pub returns-in-None-clause-reply : goal.returns-in-None-clause-reply
returns-in-None-clause-reply g c = λ other. c.reply.ensures.reply (map string_bytes c.args.words.now) c.in-Ok.ensures
