use Rattle.std.proofs.Common.{refl}
use Rattle.py_parser.specs.declared.fault.ParseFault.TheVariants.{Unexpected, Unsupported}
use Rattle.py_parser.proofs.FirstFaults.{end_fault, some_of, none_of}
use Rattle.py_parser.proofs.told.at_end.Goals as goal

-- src/told.rt
pub returns-in-Ok-Some : goal.returns-in-Ok-Some
returns-in-Ok-Some c =
    end_fault c.args.lines.now c.args.lines_left c.args.last c.index-lines-number.result c.as_slice.result.now (Unsupported c.in-Ok-Some.at) c.requires refl refl (λ front point. tt) c.index-lines-number.is c.as_slice.ensures
    (some_of _ c.in-Ok-Some.field-0 c.in-Ok-Some.at c.in-Ok-Some.field-0-is c.in-Ok-Some.ensures.refused)

-- src/told.rt
pub returns-in-Ok-None : goal.returns-in-Ok-None
returns-in-Ok-None c =
    end_fault c.args.lines.now c.args.lines_left c.args.last c.index-lines-number.result c.as_slice.result.now (Unexpected c.args.last) c.requires refl refl (λ front point. tt) c.index-lines-number.is c.as_slice.ensures
    (refl, none_of _ c.in-Ok-None.field-0 c.in-Ok-None.field-0-is c.in-Ok-None.ensures.none)
