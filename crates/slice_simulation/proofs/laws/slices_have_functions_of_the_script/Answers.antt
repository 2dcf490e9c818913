use Rattle.slice_simulation.proofs.FunctionsLeft.{functions_left, function_found}
use Rattle.slice_simulation.proofs.laws.slices_have_functions_of_the_script.Goals as goal

pub returns-clause-functions : goal.returns-clause-functions
returns-clause-functions c = λ script keep. functions_left keep script

pub returns-clause-found : goal.returns-clause-found
returns-clause-found c = λ script keep place well. function_found keep script well place
