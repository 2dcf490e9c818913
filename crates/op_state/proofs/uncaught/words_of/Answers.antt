use Rattle.std.proofs.Common.{sym, ap, ◌∙◌, Some, [], unwrap_or}
use Rattle.std.specs.Option.{option_map}
use Rattle.op_state.proofs.FinalsHeld.{bytes_same}
use Rattle.op_state.proofs.UncaughtHeld.{entry_is_named}
use Rattle.op_state.specs.Uncaught.{text_alone}
use Rattle.op_work.specs.Entries.{seen_entry}
use Rattle.py_value.specs.Seen.{bytes_of}
use Rattle.op_state.proofs.uncaught.words_of.Goals as goal

pub text_in-requires : goal.text_in-requires
text_in-requires c = entry_is_named c.args.work.now.values c.args.work.now.store c.kind_there.ensures.named c.args.o c.args.key (c.in-Some.field-0-0, c.in-Some.args) (sym c.in-Some.is ∙ c.entry_there.ensures.entry)

pub returns-clause-words : goal.returns-clause-words
returns-clause-words c = λ table whole extends.
    ap (λ entry. text_alone (seen_entry table entry)) (sym c.entry_there.ensures.entry ∙ c.in-Some.is)
    ∙ (c.text_in.ensures.words table whole extends
    ∙ (ap (option_map (bytes_of table)) c.in-Some-text_in.is
    ∙ ap Some (bytes_same extends c.in-Some-text_in.words c.in-Some-text_in.ensures.named
    ∙ (ap (λ o. unwrap_or o []) c.text_of.ensures ∙ (sym c.in_ok-words.ensures.ok ∙ sym c.of.ensures)))))
