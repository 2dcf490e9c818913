use Rattle.py_parser.proofs.OneReading.{Laws, same_script, same_refusal, not_refused}
use Rattle.py_parser.proofs.reading_laws.one_reading.Goals as goal

pub returns : goal.returns
returns c =
    let laws : Laws = record {
      one_list = c.one_list_of_lines.ensures;
      one_tree = c.one_script.ensures.lines;
      one_bad = c.one_fault.ensures.bad_token;
      one_open = c.one_fault.ensures.left_open;
      one_kind = c.one_fault.ensures.one_kind;
      no_lines = c.one_fault.ensures.no_lines;
      one_fault = c.text_has_one_fault.ensures;
      no_fault = c.one_fault-2.ensures.none;
    } in
    record { script = same_script laws; place = same_refusal laws; not_both = not_refused laws }
