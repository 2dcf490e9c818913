use Rattle.std.proofs.Common.{sym, subst, ◌∙◌}
use Rattle.value_links.specs.Taken.{Done}
use Rattle.feedings.specs.Noted.{AreDone, dones_of}
use Rattle.feedings.proofs.NotedLaws.{noted_dones, on_ok, same_frames}
use Rattle.feedings.proofs.stack.Stack.note.Goals as goal

pub returns : goal.returns
returns c = λ notes stack.
    let d : Done = record { point = c.args.point; time = c.args.time } in
    on_ok c.note.result c.note.ensures (λ noted. record {
      frames = stack.frames ∙ sym (same_frames d notes);
      dones = subst (AreDone c.note.new.self) (sym (noted_dones d notes)) (noted (dones_of notes) stack.dones);
    })
