use Rattle.std.proofs.Common.{ap, sym, refl}
use Rattle.py_lines.specs.declared.parts.Token.{Token}
use Rattle.py_parser.specs.declared.fault.ParseFault.TheVariants.{Unexpected, Unsupported}
use Rattle.py_parser.proofs.FirstFaults.{token_fault, some_of, none_of}
use Rattle.py_parser.proofs.told.at_token.Goals as goal

-- src/told.rt
pub returns-in-Ok-Some : goal.returns-in-Ok-Some
returns-in-Ok-Some c =
    token_fault c.args.lines.now c.args.lines_left c.args.left c.index-lines-number.result c.as_slice-tokens.result.now c.index-tokens-count.result (Unsupported c.in-Ok-Some.at) c.requires refl refl (λ front point. tt) c.index-lines-number.is c.as_slice-tokens.ensures c.index-tokens-count.is
    (some_of _ c.in-Ok-Some.field-0 c.in-Ok-Some.at c.in-Ok-Some.field-0-is c.in-Ok-Some.ensures.refused)

-- src/told.rt
pub returns-in-Ok-None : goal.returns-in-Ok-None
returns-in-Ok-None c =
    token_fault c.args.lines.now c.args.lines_left c.args.left c.index-lines-number.result c.as_slice-tokens.result.now c.index-tokens-count.result (Unexpected _) c.requires refl refl (λ front point. tt) c.index-lines-number.is c.as_slice-tokens.ensures c.index-tokens-count.is
    (sym (ap (λ (t : Token). t.at) c.index-tokens-count.is), none_of _ c.in-Ok-None.field-0 c.in-Ok-None.field-0-is c.in-Ok-None.ensures.none)
