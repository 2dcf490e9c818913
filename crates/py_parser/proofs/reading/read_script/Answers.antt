use Rattle.std.proofs.Common.{Ok, Err, ap}
use Rattle.py_parser.specs.declared.refusal.Refusal.{Refusal}
use Rattle.py_parser.proofs.Answered.{Told, refused_text, only_memory, large_text, ill_text, never_large, never_ill, refusal_same, refused_lines, only_memory_there}
use Rattle.py_parser.proofs.reading.read_script.Goals as goal

-- src/reading.rt
pub returns-in-Err : goal.returns-in-Err
returns-in-Err c =
    let text = c.args.text.now in
    let told : Told text (Err c.in-Err.fault) = record {
      large = c.in-Err.ensures.too_large;
      ill = c.in-Err.ensures.not_utf8;
      whole = c.in-Err.ensures.complete;
      bad = c.in-Err.ensures.bad_token;
      opened = c.in-Err.ensures.left_open;
    } in
    record {
      found = tt;
      numbered = tt;
      well_formed = tt;
      flat = tt;
      complete = only_memory text c.in-Err.fault c.of_text.result told c.of_text.ensures;
      too_large = λ more. ap (λ (r : Refusal). Err r) (large_text text c.in-Err.fault c.of_text.result told c.of_text.ensures more);
      not_utf8 = λ at is. ap (λ (r : Refusal). Err r) (ill_text text c.in-Err.fault c.of_text.result told c.of_text.ensures at is);
      refused = λ at same. refused_text text c.in-Err.fault c.of_text.result told c.of_text.ensures at (refusal_same c.of_text.result at same);
    }

-- src/reading.rt
pub returns : goal.returns
returns c =
    let text = c.args.text.now in
    let told : Told text (Ok c.in-Ok.lines) = record {
      large = c.in-Ok.ensures.too_large;
      ill = c.in-Ok.ensures.not_utf8;
      whole = c.in-Ok.ensures.complete;
      bad = c.in-Ok.ensures.bad_token;
      opened = c.in-Ok.ensures.left_open;
    } in
    record {
      found = tt;
      numbered = tt;
      well_formed = tt;
      flat = tt;
      complete = only_memory_there text c.in-Ok.lines c.in-Err-parse.fault c.of_lines.result told c.in-Err-parse.ensures.complete c.of_lines.ensures;
      too_large = λ more. absurd (never_large text c.in-Ok.lines told more);
      not_utf8 = λ at is. absurd (never_ill text c.in-Ok.lines told at is);
      refused = λ at same. refused_lines text c.in-Ok.lines c.in-Err-parse.fault c.of_lines.result told c.in-Ok.ensures.lines c.in-Err-parse.ensures.refused c.of_lines.ensures at (refusal_same c.of_lines.result at same);
    }

-- src/reading.rt
pub returns-in-Ok-parse-clause-flat : goal.returns-in-Ok-parse-clause-flat
returns-in-Ok-parse-clause-flat c = c.targets_are_flat.ensures.told _ _ c.in-Ok-parse.ensures.found.script.grammar
