use Rattle.std.proofs.Common.{sym, ap, ◌∙◌, ◌++◌, string_bytes, encode_utf8}
use Rattle.std.proofs.lemmas.List.{append_assoc}
use Rattle.std.proofs.lemmas.Str.{IsUtf8-past_char}
use Rattle.std.specs.Str.Iter.{chars_rest}
use Rattle.spelling.specs.Spelling.{quote_of}
use Rattle.spelling.proofs.Letters.{all_append}
use Rattle.py_model.specs.Printing.{spelled_all}
use Rattle.spelling.proofs.literals.push_letters.Goals as goal

pub loop-c-preserved : goal.loop-c-preserved
loop-c-preserved c =
    let held = c.loop-c.invariant in
    let parts = c.in-Some.ensures.steps.0 in
    let q = quote_of c.args.double in
    let rest = chars_rest c.next.new.self in (
      IsUtf8-past_char _ _ c.in-Some.c held.0 parts,
      ap (λ bytes. bytes ++ spelled_all q rest) c.in_ok-push_letter.ensures
          ∙ (append_assoc (string_bytes c.loop-c.out) (spelled_all q (encode_utf8 c.in-Some.c)) (spelled_all q rest)
          ∙ (ap (λ bytes. string_bytes c.loop-c.out ++ bytes) (sym (ap (spelled_all q) parts ∙ all_append q (encode_utf8 c.in-Some.c) rest)) ∙ held.1)),
    )
