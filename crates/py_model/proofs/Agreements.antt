-- Every operation is alike for corresponding operands, those that print too, and asks nothing where it may not.
use Rattle.std.proofs.Common.{◌≡◌, false, List, None, refl}
use Rattle.py_value.specs.Contents.{Contents}
use Rattle.py_model.proofs.AlikePrinting.{print_alike, repr_alike, str_alike}
use Rattle.py_model.proofs.Correspondence.{allowed, operation_alike}
use Rattle.py_model.proofs.AlikePlans.{AlikeBy, IsNoteless}
use Rattle.py_model.specs.AlikeOperations.{renamed_op}
use Rattle.py_model.specs.Operations.{Op, plan}
use Rattle.py_model.specs.Orderly.{IsOrderly, other_read}
use Rattle.py_model.specs.Quiet.{may_ask, may_note, IsQuiet}
use Rattle.py_model.specs.Renaming.{Renaming, renamed_list}
use Rattle.py_model.specs.Tidy.{IsTidy}

pub every_alike : (r : Renaming) (op : Op) (values : List Contents) → AlikeBy (allowed op.no) r (plan op values) (plan (renamed_op r op) (renamed_list r values))
every_alike r op values = operation_alike r (λ may. print_alike may r) (λ may. repr_alike may r) (λ may. str_alike may r) op values

-- a renaming that changes nothing
pub as_they_are : Renaming
as_they_are = record {
  objects = λ o. o;
  scopes = λ scope. scope;
  one_object = λ m n is. is;
  one_scope = λ m n is. is;
  module_stays = refl;
  arguments_stay = refl;
}

pub every_quiet : (op : Op) (values : List Contents) → may_ask op.no ≡ false → IsQuiet (plan op values)
every_quiet op values none = (every_alike as_they_are op values).quiet none

pub every_orderly : (op : Op) (values : List Contents) → IsOrderly (plan op values)
every_orderly op values = (every_alike as_they_are op values).orderly other_read

pub every_tidy : (op : Op) (values : List Contents) → IsTidy (plan op values)
every_tidy op values = (every_alike as_they_are op values).tidy None

pub every_noteless : (op : Op) (values : List Contents) → may_note op.no ≡ false → IsNoteless (plan op values)
every_noteless op values none = (every_alike as_they_are op values).noteless none
