use Rattle.py_model.proofs.Frames.{frames_are_open}
use Rattle.py_model.proofs.laws.frames_follow_brackets.Goals as goal

pub returns : goal.returns
returns c = frames_are_open
