use Rattle.std.proofs.Common.{ap, sym, ◌∙◌}
use Rattle.py_tree.specs.declared.stmt.Form.{Form}
use Rattle.std.specs.Option.{option_map}
use Rattle.py_tree.specs.Erasure.{form_of}
use Rattle.py_tree.proofs.StmtTrees.{handlers_tree, try_tree}
use Rattle.flow_frames.specs.Machine.{first_handler, handler_in, handlers_from}
use Rattle.flow_openings.specs.Handlers.{handler_seen}
use Rattle.flow_openings.proofs.Handlers.{handler_is, handlers_seen, seen_so}
use Rattle.flow_openings.proofs.forms.handler_in.Goals as goal

pub returns-in-Try : goal.returns-in-Try
returns-in-Try c =
    seen_so c.handler_at.result ∙ ap (option_map handler_seen) c.handler_at.ensures ∙ handler_is c.as_slice.result.now c.args.number
    ∙ ap (λ hs. first_handler (handlers_from c.args.number (handlers_seen hs))) c.as_slice.ensures.value
    ∙ ap (λ hs. first_handler (handlers_from c.args.number hs)) (sym (handlers_tree c.in-Try.handlers))
    ∙ sym (ap (λ f. handler_in f c.args.number) (ap form_of (sym {A = Form} c.deref.ensures ∙ c.in-Try.is) ∙ try_tree c.in-Try.field-0 c.in-Try.handlers))
