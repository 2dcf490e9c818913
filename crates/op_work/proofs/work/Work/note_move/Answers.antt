use Rattle.op_work.proofs.work.Work.note_move.Goals as goal
