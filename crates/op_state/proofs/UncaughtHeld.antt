-- What is said of an exception that nothing caught is what the store of a run says.
use Rattle.std.proofs.Common.{◌≡◌, refl, sym, ap, subst, ◌∙◌, ℕ, ◌<◌, List, [], ◌∷◌, length, slice_index_or, Option, Some, None, IfSome}
use Rattle.std.specs.Option.{option_map}
use Rattle.object_store.specs.Named.{IsNamedStore}
use Rattle.object_store.specs.Store.{StoreView, content_at}
use Rattle.op_state.specs.Uncaught.{text_raised, one_text, text_alone, IsArgsKey, AreWordsOf, IsTextOf}
use Rattle.op_work.proofs.EntryReads.{ContentsStay, form_on, named_on, entry_read, entry_named}
use Rattle.py_model.proofs.Tuples.{some_tuple}
use Rattle.op_work.specs.Entries.{entry_in, IsNamedEntry}
use Rattle.op_work.specs.Work.{WorkView, Extends, IsSeen}
use Rattle.py_model.specs.Store.{RunStore, entry_of}
use Rattle.py_value.specs.Contents.{Contents, Parts, parts_by, contents, nothing, truth, int, text, tuple, range, function, class, exception_class, builtin, object, no_parts, part}
use Rattle.py_value.specs.Seen.{bytes_of}
use Rattle.py_value.specs.Values.{ValuesView, AreInterned, IsNamed, AreNamed}
use Rattle.py_value.specs.declared.access.Location.TheVariants.{Entry}
use Rattle.py_value.specs.declared.key.Key.{Key}
use Rattle.py_value.specs.declared.value.Value.{Value}
use Rattle.py_value.specs.declared.value.Value.TheVariants.{None as NoneValue, Bool, Int, Text, Tuple, Range, Fn, Class, Exc, Builtin, Object}

-- a tuple of more than one value is none of one text
two_parts : (c d : Contents) (rest : Parts) → one_text (tuple (part c (part d rest))) ≡ None
two_parts nothing d rest = refl
two_parts (truth b) d rest = refl
two_parts (int i) d rest = refl
two_parts (text words) d rest = refl
two_parts (tuple ps) d rest = refl
two_parts (range start end step) d rest = refl
two_parts (function place) d rest = refl
two_parts (class place) d rest = refl
two_parts (exception_class number) d rest = refl
two_parts (builtin number) d rest = refl
two_parts (object o) d rest = refl

-- a tuple of one value is one of a text where that is one
pub alone : (table : ValuesView) (v : Value) (words : Option ℕ) → IsTextOf v words → one_text (tuple (part (contents table v) no_parts)) ≡ option_map (bytes_of table) words
alone table (Text id) words is = ap (option_map (bytes_of table)) (sym is)
alone table (Tuple id) words is = ap (λ (c : Contents). one_text (tuple (part c no_parts))) (some_tuple table id).1 ∙ ap (option_map (bytes_of table)) (sym is)
alone table NoneValue words is = ap (option_map (bytes_of table)) (sym is)
alone table (Bool b) words is = ap (option_map (bytes_of table)) (sym is)
alone table (Int i) words is = ap (option_map (bytes_of table)) (sym is)
alone table (Range start end step) words is = ap (option_map (bytes_of table)) (sym is)
alone table (Fn place) words is = ap (option_map (bytes_of table)) (sym is)
alone table (Class place) words is = ap (option_map (bytes_of table)) (sym is)
alone table (Exc number) words is = ap (option_map (bytes_of table)) (sym is)
alone table (Builtin number) words is = ap (option_map (bytes_of table)) (sym is)
alone table (Object o) words is = ap (option_map (bytes_of table)) (sym is)

pub one_item : (f : Value → Contents) (items : List Value) (v : Value) → length items ≡ 1 → parts_by f items ≡ part (f (slice_index_or items 0 v)) no_parts
one_item f [] v one = cc one
one_item f (w ∷ []) v one = refl
one_item f (w ∷ x ∷ items) v one = cc one

pub first_named : (values : ValuesView) (items : List Value) (v : Value) → length items ≡ 1 → AreNamed values items → IsNamed values (slice_index_or items 0 v)
first_named values [] v one named = cc one
first_named values (w ∷ items) v one named = named 0 w refl

pub not_one : (f : Value → Contents) (items : List Value) → (length items ≡ 1 → ⊥) → one_text (tuple (parts_by f items)) ≡ None
not_one f [] other = refl
not_one f (one ∷ []) other = absurd (other refl)
not_one f (one ∷ two ∷ items) other = two_parts (f one) (f two) (parts_by f items)

pub text_named : (values : ValuesView) (v : Value) (words : Option ℕ) → IsNamed values v → IsTextOf v words → IfSome words (λ id. id < length values.texts)
text_named values (Text id) words named is = subst (λ o. IfSome o (λ id. id < length values.texts)) (sym is) named
text_named values (Tuple id) words named is = subst (λ o. IfSome o (λ id. id < length values.texts)) (sym is) tt
text_named values NoneValue words named is = subst (λ o. IfSome o (λ id. id < length values.texts)) (sym is) tt
text_named values (Bool b) words named is = subst (λ o. IfSome o (λ id. id < length values.texts)) (sym is) tt
text_named values (Int i) words named is = subst (λ o. IfSome o (λ id. id < length values.texts)) (sym is) tt
text_named values (Range start end step) words named is = subst (λ o. IfSome o (λ id. id < length values.texts)) (sym is) tt
text_named values (Fn place) words named is = subst (λ o. IfSome o (λ id. id < length values.texts)) (sym is) tt
text_named values (Class place) words named is = subst (λ o. IfSome o (λ id. id < length values.texts)) (sym is) tt
text_named values (Exc number) words named is = subst (λ o. IfSome o (λ id. id < length values.texts)) (sym is) tt
text_named values (Builtin number) words named is = subst (λ o. IfSome o (λ id. id < length values.texts)) (sym is) tt
text_named values (Object o) words named is = subst (λ o. IfSome o (λ id. id < length values.texts)) (sym is) tt

-- what stands at a key is named
pub entry_is_named : (values : ValuesView) (store : StoreView) → IsNamedStore values store → (o : ℕ) (key : Key) (entry : Value × Value) → Some entry ≡ entry_in (content_at store (Entry o key)) → IsNamed values entry.1
entry_is_named values store named o key entry is = (subst (IsNamedEntry values) (sym is) (entry_named values store named o key)).1

-- the text that an exception has alone is what stands at the key of its arguments
pub text_by_key : ContentsStay → (work : WorkView) → AreInterned work.values → (o : ℕ) (key : Key) → IsArgsKey work.values key → (words : Option (List ℕ)) → AreWordsOf work o key words
    → (table : ValuesView) (run : RunStore) → AreInterned table → Extends work.values table → IsSeen table work.store run → text_raised run o ≡ words
text_by_key stay work interned o key is words said table run whole extends seen =
    let v = is.0 in
    let form = form_on stay interned extends v key is.1.0 in
    ap (λ (c : Contents). text_raised_of run o c) (sym (is.1.1 table extends))
    ∙ (ap text_alone (entry_read table work.store run seen o (contents table v) key (named_on extends key.value is.1.0.1.named) form) ∙ said table whole extends)
  where
    text_raised_of : RunStore → ℕ → Contents → Option (List ℕ)
    text_raised_of run o c = text_alone (entry_of run o c)
