-- What is made of two parts, named one after the other.
use Rattle.std.proofs.Common.{◌≡◌, ℕ, List, [], ◌∷◌, ◌++◌, map, Option, Some, None, unwrap_or, refl, sym, ap, subst, ◌∙◌}
use Rattle.std.specs.Option.{option_map, option_and_then}
use Rattle.std.proofs.lemmas.Option.{same_Some}
use Rattle.py_value.specs.declared.access.Access.{Access}
use Rattle.py_value.specs.declared.access.Access.TheVariants.{Set, Update}
use Rattle.py_value.specs.declared.access.Change.{Change}
use Rattle.py_value.specs.declared.access.Content.{Content}
use Rattle.py_value.specs.declared.access.Content.TheVariants.{Entry as EntryContent, Order as OrderContent}
use Rattle.py_value.specs.declared.access.Location.{Location}
use Rattle.py_value.specs.declared.access.Location.TheVariants.{Len}
use Rattle.py_value.specs.declared.value.Value.{Value}
use Rattle.py_value.specs.declared.value.Value.TheVariants.{None as NoneValue}
use Rattle.py_value.specs.Contents.{Contents, contents}
use Rattle.py_value.specs.Seen.{SeenLocation, SeenContent, SeenChange, SeenAccess, SeenKind, sets, updates, entry_is, order_is, value_at, location_at, access_seen, kind_seen}
use Rattle.py_value.specs.Values.{ValuesView}
use Rattle.recorder.specs.MomentRows.{numbered, numbered_content, numbered_change, numbered_access, numbered_kind, numbered_answer}
use Rattle.recorder.specs.Telling.{told_by}
use Rattle.prov_base.specs.declared.place.Pos.{Pos}
use Rattle.py_value.specs.declared.access.Kind.{Kind}
use Rattle.py_model.specs.declared.moment.Answer.{Answer as OneAnswer}
use Rattle.py_model.specs.Moment.{does, enters}
use Rattle.py_model.specs.Plan.{Answer}
use Rattle.py_model.specs.Told.{answer_seen}
use Rattle.trace_rows.specs.declared.row.Row.TheVariants.{Do, Enter}
use Rattle.recorder.specs.Naming.{Naming, named_in, named_in_location, named_in_content, named_in_change, named_in_accesses, named_in_answer, named_in_made, named_in_values, name_all}
use Rattle.recorder.specs.Numbers.{NumbersValue, NumbersValues, all_of}
use Rattle.recorder.specs.Parts.{NumbersLocation, NumbersContent, NumbersChange, NumbersAccess, NumbersAccesses, NumbersAnswer, NumbersMade, IsRowOf}
use Rattle.recorder.proofs.Naming.{same_extends, extends_then}
use Rattle.recorder.proofs.Numbering.{name_all_append}

pub join_names : (cs ds : List Contents) (old mid now : Naming) → mid ≡ name_all cs old → now ≡ name_all ds mid → now ≡ name_all (cs ++ ds) old
join_names cs ds old mid now first rest = rest ∙ ap (name_all ds) first ∙ sym (name_all_append cs ds old)

pub all_written : {X B : Type 0} (write : B → Option X) (f : B → X) → ((b : B) (x : X) → write b ≡ Some x → f b ≡ x) → (bs : List B) (xs : List X) → all_of write bs ≡ Some xs → map f bs ≡ xs
all_written write f same [] xs is = same_Some [] xs is
all_written {X} write f same (b ∷ bs) xs is = by (write b) refl (all_of write bs) (λ us rest. all_written write f same bs us rest) is
  where
    by : (first : Option X) → write b ≡ first → (rest : Option (List X)) → ((us : List X) → rest ≡ Some us → map f bs ≡ us)
        → option_and_then (λ x. option_map (λ ys. x ∷ ys) rest) first ≡ Some xs → f b ∷ map f bs ≡ xs
    by None a rest more is = cc
    by (Some x) a None more is = cc
    by (Some x) a (Some us) more is = ap (λ y. y ∷ map f bs) (same b x a) ∙ ap (λ ys. x ∷ ys) (more us refl) ∙ same_Some (x ∷ us) xs is

value_written : (view : ValuesView) (c : Contents) (v : Value) → value_at view c ≡ Some v → numbered view c ≡ v
value_written view c v is = ap (λ o. unwrap_or o NoneValue) is

pub values_written : (view : ValuesView) (cs : List Contents) (vs : List Value) → all_of (value_at view) cs ≡ Some vs → map (numbered view) cs ≡ vs
values_written view cs vs is = all_written (value_at view) (numbered view) (value_written view) cs vs is

pub entry_numbers : (key v : Contents) (old mid now : Naming) (k w : Value) → NumbersValue key old mid k → NumbersValue v mid now w
    → NumbersContent (entry_is (Some (key, v))) old now (EntryContent (Some (k, w)))
entry_numbers key v old mid now k w first rest = record {
  named = join_names (named_in key) (named_in v) old mid now first.named rest.named;
  extends = extends_then first.extends rest.extends;
  reads = λ later e. both (first.reads later (extends_then rest.extends e)) (rest.reads later e);
  writes = λ later e. made (value_written later key k (first.writes later (extends_then rest.extends e))) (value_written later v w (rest.writes later e));
}
  where
    both : {a b c d : Contents} → a ≡ b → c ≡ d → entry_is (Some (a, c)) ≡ entry_is (Some (b, d))
    both a b = cc

    made : {a b c d : Value} → a ≡ b → c ≡ d → Some (EntryContent (Some (a, c))) ≡ Some (EntryContent (Some (b, d)))
    made a b = cc

pub order_numbers : (keys : List Contents) (old now : Naming) (ks : List Value) → NumbersValues keys old now ks → NumbersContent (order_is keys) old now (OrderContent ks)
order_numbers keys old now ks one = record {
  named = one.named;
  extends = one.extends;
  reads = λ later e. ap order_is (one.reads later e);
  writes = λ later e. ap (λ vs. Some (OrderContent vs)) (values_written later keys ks (one.writes later e));
}

location_written : (view : ValuesView) (l : SeenLocation) (m : Location) → location_at view l ≡ Some m → unwrap_or (location_at view l) (Len 0) ≡ m
location_written view l m is = ap (λ o. unwrap_or o (Len 0)) is

pub set_numbers : (l : SeenLocation) (c : SeenContent) (old mid now : Naming) (m : Location) (d : Content) → NumbersLocation l old mid m → NumbersContent c mid now d
    → NumbersAccess (sets l c) old now (Set m d)
set_numbers l c old mid now m d first rest = record {
  named = join_names (named_in_location l) (named_in_content c) old mid now first.named rest.named;
  extends = extends_then first.extends rest.extends;
  reads = λ later e. both (first.reads later (extends_then rest.extends e)) (rest.reads later e);
  writes = λ later e. made (location_written later l m (first.writes later (extends_then rest.extends e))) (same_Some (numbered_content later c) d (rest.writes later e));
}
  where
    both : {a b : SeenLocation} {x y : SeenContent} → a ≡ b → x ≡ y → sets a x ≡ sets b y
    both a b = cc

    made : {a b : Location} {x y : Content} → a ≡ b → x ≡ y → Some (Set a x) ≡ Some (Set b y)
    made a b = cc

pub update_numbers : (l : SeenLocation) (c : SeenChange) (old mid now : Naming) (m : Location) (d : Change) → NumbersLocation l old mid m → NumbersChange c mid now d
    → NumbersAccess (updates l c) old now (Update m d)
update_numbers l c old mid now m d first rest = record {
  named = join_names (named_in_location l) (named_in_change c) old mid now first.named rest.named;
  extends = extends_then first.extends rest.extends;
  reads = λ later e. both (first.reads later (extends_then rest.extends e)) (rest.reads later e);
  writes = λ later e. made (location_written later l m (first.writes later (extends_then rest.extends e))) (same_Some (numbered_change later c) d (rest.writes later e));
}
  where
    both : {a b : SeenLocation} {x y : SeenChange} → a ≡ b → x ≡ y → updates a x ≡ updates b y
    both a b = cc

    made : {a b : Location} {x y : Change} → a ≡ b → x ≡ y → Some (Update a x) ≡ Some (Update b y)
    made a b = cc

accesses_written : (view : ValuesView) (bs : List SeenAccess) (xs : List Access) → all_of (λ c. Some (numbered_access view c)) bs ≡ Some xs → map (numbered_access view) bs ≡ xs
accesses_written view bs xs is = all_written (λ c. Some (numbered_access view c)) (numbered_access view) (λ b x is. same_Some (numbered_access view b) x is) bs xs is

-- ---- the rows of moments

pub same_does : (at : Pos) (op weight : ℕ) {vs ws : List Contents} {a b : Answer} {k l : Option SeenKind} {xs ys : List SeenAccess} → vs ≡ ws → a ≡ b → k ≡ l → xs ≡ ys
    → does at op vs a k xs weight ≡ does at op ws b l ys weight
same_does at op weight a b c d = cc

same_do : (at : Pos) (op weight : ℕ) {vs ws : List Value} {a b : OneAnswer} {k l : Option Kind} {xs ys : List Access} → vs ≡ ws → a ≡ b → k ≡ l → xs ≡ ys
    → Do at op vs a k xs weight ≡ Do at op ws b l ys weight
same_do at op weight a b c d = cc

pub same_enters : (call def : Pos) {vs ws : List Contents} {xs ys : List SeenAccess} → vs ≡ ws → xs ≡ ys → enters call def vs xs ≡ enters call def ws ys
same_enters call def a b = cc

same_enter : (call def : Pos) {vs ws : List Value} {xs ys : List Access} → vs ≡ ws → xs ≡ ys → Enter call def vs xs ≡ Enter call def ws ys
same_enter call def a b = cc

pub do_is : (at : Pos) (op weight : ℕ) (vs : List Contents) (a : Answer) (k : Option SeenKind) (xs : List SeenAccess) (n0 n1 n2 n3 n4 : Naming)
    (ws : List Value) (b : OneAnswer) (l : Option Kind) (ys : List Access)
    → NumbersValues vs n0 n1 ws → NumbersAnswer a n1 n2 b → NumbersMade k n2 n3 l → NumbersAccesses xs n3 n4 ys
    → IsRowOf (does at op vs a k xs weight) n0 n4 (Do at op ws b l ys weight)
do_is at op weight vs a k xs n0 n1 n2 n3 n4 ws b l ys h1 h2 h3 h4 =
    let e4 = same_extends n4.view h4.extends.interned in
    let e3 = h4.extends in
    let e2 = extends_then h3.extends e3 in
    let e1 = extends_then h2.extends e2 in
    record {
      named = join_names (named_in_values vs) (named_in_answer a ++ (named_in_made k ++ named_in_accesses xs)) n0 n1 n4 h1.named
          (join_names (named_in_answer a) (named_in_made k ++ named_in_accesses xs) n1 n2 n4 h2.named (join_names (named_in_made k) (named_in_accesses xs) n2 n3 n4 h3.named h4.named));
      extends = extends_then h1.extends e1;
      written = same_do at op weight (values_written n4.view vs ws (h1.writes n4.view e1)) (same_Some (numbered_answer n4.view a) b (h2.writes n4.view e2))
          (same_Some (option_map (numbered_kind n4.view) k) l (h3.writes n4.view e3)) (accesses_written n4.view xs ys (h4.writes n4.view e4));
      tells = λ earlier ended is.
          subst (λ v. does at op (map (contents v) ws) (answer_seen v b) (option_map (kind_seen v) l) (map (access_seen v) ys) weight ∷ told_by earlier ended ≡ does at op vs a k xs weight ∷ told_by earlier ended) (sym is)
          (ap (λ m. m ∷ told_by earlier ended) (same_does at op weight (h1.reads n4.view e1) (h2.reads n4.view e2) (h3.reads n4.view e3) (h4.reads n4.view e4)));
    }

pub enter_is : (call def : Pos) (vs : List Contents) (xs : List SeenAccess) (n0 n1 n2 : Naming) (ws : List Value) (ys : List Access)
    → NumbersValues vs n0 n1 ws → NumbersAccesses xs n1 n2 ys → IsRowOf (enters call def vs xs) n0 n2 (Enter call def ws ys)
enter_is call def vs xs n0 n1 n2 ws ys h1 h2 =
    let e2 = same_extends n2.view h2.extends.interned in
    record {
      named = join_names (named_in_values vs) (named_in_accesses xs) n0 n1 n2 h1.named h2.named;
      extends = extends_then h1.extends h2.extends;
      written = same_enter call def (values_written n2.view vs ws (h1.writes n2.view h2.extends)) (accesses_written n2.view xs ys (h2.writes n2.view e2));
      tells = λ earlier ended is.
          subst (λ v. enters call def (map (contents v) ws) (map (access_seen v) ys) ∷ told_by earlier ended ≡ enters call def vs xs ∷ told_by earlier ended) (sym is)
          (ap (λ m. m ∷ told_by earlier ended) (same_enters call def (h1.reads n2.view h2.extends) (h2.reads n2.view e2)));
    }
