use Rattle.py_tree.proofs.FunctionLaws.{function_there, class_there, functions_ascend, classes_ascend, apart}
use Rattle.py_tree.proofs.laws.functions_stand_apart.Goals as goal

pub returns : goal.returns
returns c = record { function = function_there; class = class_there; function_places = functions_ascend; class_places = classes_ascend; apart = apart }
