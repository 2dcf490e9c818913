-- How a refusal of a part is one of what it stands in.
use Rattle.std.proofs.Common.{◌≡◌, ℕ, zero, suc, max, ◌+◌, ◌≤◌, ◌<◌, Bool, true, false, List, [], ◌∷◌, ◌++◌, Option, Some, None, refl, ap, sym, ◌∙◌, arith, subst, append_assoc, if◌then◌else◌}
use Rattle.std.specs.Bool.{⊤}
use Rattle.std.specs.Prelude.{◌==◌, ◌&&◌}
use Rattle.std.specs.Option.{option_map_or}
use Rattle.std.proofs.lemmas.Bool.{eqb-true}
use Rattle.std.proofs.lemmas.List.{append-nil}
use Rattle.std.proofs.Math.Nat.{le-max_left, le-max_right}
use Rattle.prov_base.specs.declared.place.Pos.{Pos}
use Rattle.py_lines.specs.declared.parts.Token.{Token}
use Rattle.py_expressions.specs.declared.fault.Fault.{Fault}
use Rattle.py_expressions.specs.declared.fault.Fault.TheVariants.{Unexpected, TooDeep, TooMany, Memory}
use Rattle.py_expressions.specs.declared.fault.Stop.{Stop}
use Rattle.py_expressions.specs.declared.fault.Stop.TheVariants.{Here, End}
use Rattle.py_expressions.specs.Parsed.{Production, IsDeep, Only, Finds, Begins, BeginsWithin, IsFirstDeep, GoesDeep, Shown, Refused, IsTooDeep, is_keyword_next}
use Rattle.py_expressions.specs.Lies.{is_place, over, nowhere, IsFirst}
use Rattle.py_expressions.proofs.Lying.{over_more, over_left}
use Rattle.py_expressions.proofs.Deepest.{apart_front, apart_there}
use Rattle.py_expressions.specs.Reader.{Read, go_on, next_level, kind_level, is_keyword}
use Rattle.py_expressions.proofs.Leading.{Beyond, Reads, Leads}

abbrev pub first_of : List Token → Option Token
first_of [] = None
first_of (t ∷ ts) = Some t

-- What these tokens with this part behind them begin. Where what begins at a place lies within the part's room, it lies within
-- the room of the whole, but for the place of what is put behind; what lies too deep in the part does so in the whole.
pub record Holds {A B : Type 0} (p : Production A) (room : ℕ) (q : Production B) (inner : ℕ) (front : List Token) (at : Pos) (b : B) : Type 0 where
  pub some : A
  pub more : List Token
  pub tokens_are : p.tokens some ≡ (front ++ q.tokens b) ++ more
  pub within : (other : Pos) → (other ≡ at → ⊥) → q.lies b other ≤ inner → p.lies some other ≤ room
  pub deep : (stop : Stop) → IsDeep stop inner (q.lies b) → IsDeep stop room (p.lies some)

-- A part stands in another behind these tokens: any such part is the beginning of one there, and where none is read that
-- begins with the same token none is read there.
pub record Inside {A B : Type 0} (p : Production A) (room : ℕ) (q : Production B) (inner : ℕ) (front rest : List Token) : Type 0 where
  pub begins : (at : Pos) (b : B) → Holds p room q inner front at b
  pub finds : (stop : Stop) (more : List Token) → first_of more ≡ first_of rest → Finds (λ b. IsDeep stop inner (q.lies b)) q.read more
      → Finds (λ a. IsDeep stop room (p.lies a)) p.read (front ++ more)

-- ---- what is read with enough steps

pub only_any : {A B : Type 0} (P : B → Type 0) (r : Read A) (f : A → List Token → Read B) → ((a : A) (rest : List Token) → Only P (f a rest)) → Only P (go_on r f)
only_any P None f each = tt
only_any P (Some (a, rest)) f each = each a rest

pub only_go_on : {A B : Type 0} (Q : A → Type 0) (P : B → Type 0) (r : Read A) (f : A → List Token → Read B) → Only Q r → ((a : A) (rest : List Token) → Q a → Only P (f a rest)) → Only P (go_on r f)
only_go_on Q P None f is each = tt
only_go_on Q P (Some (a, rest)) f is each = each a rest is

pub only_if : {A : Type 0} (P : A → Type 0) (b : Bool) (x y : Read A) → Only P x → Only P y → Only P (if b then x else y)
only_if P true x y one other = one
only_if P false x y one other = other

pub only_map_or : {A X : Type 0} (P : A → Type 0) (o : Option X) (f : X → Read A) (other : Read A) → ((x : X) → Only P (f x)) → Only P other → Only P (option_map_or f o other)
only_map_or P None f other each or_else = or_else
only_map_or P (Some x) f other each or_else = each x

pub only_is : {A : Type 0} (P : A → Type 0) (x y : Read A) → x ≡ y → Only P y → Only P x
only_is P x y is only = subst (Only P) (sym is) only

-- the first thing that is read
pub finds_first : {A B : Type 0} (Q : B → Type 0) (P : A → Type 0) (read : ℕ → List Token → Read A) (sub : ℕ → List Token → Read B) (f : ℕ → B → List Token → Read A) (ts us : List Token)
    → ((n : ℕ) → read (suc n) ts ≡ go_on (sub n us) (f n)) → ((n : ℕ) (b : B) (rest : List Token) → Q b → Only P (f n b rest)) → Finds Q sub us → Finds P read ts
finds_first Q P read sub f ts us is each finds = record {
  steps = suc finds.steps;
  only = λ n.
      let up : n + suc finds.steps ≡ suc (n + finds.steps) = omega arith in
      only_is P _ _ (ap (λ m. read m ts) up ∙ is (n + finds.steps)) (only_go_on Q P (sub (n + finds.steps) us) (f (n + finds.steps)) (finds.only n) (each (n + finds.steps)));
}

-- behind something that was read
pub finds_behind : {A B : Type 0} (P : A → Type 0) (read : ℕ → List Token → Read A) (sub : ℕ → List Token → Read B) (f : ℕ → B → List Token → Read A) (level : ℕ) (tokens : List Token) (value : B) (tail : List Token)
    → ((n : ℕ) → read (suc n) (tokens ++ tail) ≡ go_on (sub n (tokens ++ tail)) (f n)) → Reads sub level tokens value → Beyond level tail → Finds P (λ n ts. f n value ts) tail → Finds P read (tokens ++ tail)
finds_behind P read sub f level tokens value tail is reads beyond finds = record {
  steps = suc (finds.steps + reads.steps);
  only = λ n.
      let up : n + suc (finds.steps + reads.steps) ≡ suc ((n + finds.steps) + reads.steps) = omega arith in
      let over : (n + finds.steps) + reads.steps ≡ (n + reads.steps) + finds.steps = omega arith in
      only_is P _ _ (ap (λ m. read m (tokens ++ tail)) up ∙ is ((n + finds.steps) + reads.steps) ∙ ap (λ r. go_on r (f ((n + finds.steps) + reads.steps))) (reads.reads (n + finds.steps) tail beyond) ∙ ap (λ m. f m value tail) over)
      (finds.only (n + reads.steps));
}

-- behind what leads there
pub finds_lead : {A : Type 0} (P : A → Type 0) (read : ℕ → List Token → Read A) (more : ℕ → A → List Token → Read A) (level : ℕ) (tokens : List Token) (value : A) (tail : List Token)
    → Leads read more level tokens value → Beyond level tail → Finds P (λ n ts. more n value ts) tail → Finds P read (tokens ++ tail)
finds_lead P read more level tokens value tail lead beyond finds = record {
  steps = finds.steps + lead.before;
  only = λ n.
      let up : n + (finds.steps + lead.before) ≡ (n + finds.steps) + lead.before = omega arith in
      let over : (n + finds.steps) + lead.behind ≡ (n + lead.behind) + finds.steps = omega arith in
      only_is P _ _ (ap (λ m. read m (tokens ++ tail)) up ∙ lead.leads (n + finds.steps) tail beyond ∙ ap (λ m. more m value tail) over) (finds.only (n + lead.behind));
}

-- one step more
pub finds_step : {A : Type 0} (P : A → Type 0) (read other : ℕ → List Token → Read A) (ts more : List Token) → ((n : ℕ) → read (suc n) ts ≡ other n more) → Finds P other more → Finds P read ts
finds_step P read other ts more is finds = record {
  steps = suc finds.steps;
  only = λ n.
      let up : n + suc finds.steps ≡ suc (n + finds.steps) = omega arith in
      only_is P _ _ (ap (λ m. read m ts) up ∙ is (n + finds.steps)) (finds.only n);
}

pub finds_at_once : {A : Type 0} (P : A → Type 0) (read : ℕ → List Token → Read A) (ts : List Token) → ((n : ℕ) → Only P (read (suc n) ts)) → Finds P read ts
finds_at_once P read ts only = record { steps = 1; only = λ n. let up : n + 1 ≡ suc n = omega arith in only_is P _ _ (ap (λ m. read m ts) up) (only n) }

pub finds_same : {A : Type 0} (P : A → Type 0) (read : ℕ → List Token → Read A) (ts us : List Token) → ts ≡ us → Finds P read us → Finds P read ts
finds_same P read ts us is finds = subst (Finds P read) (sym is) finds

-- ---- depth

pub deeper : (stop : Stop) (room : ℕ) (f : Pos → ℕ) (outer : ℕ) (g : Pos → ℕ) → IsDeep stop room f → ((at : Pos) → 1 ≤ f at → outer + f at ≤ room + g at) → IsDeep stop outer g
deeper (Here (TooDeep at)) room f outer g deep less = let more = less at (omega (arith, deep)) in omega (arith, deep, more)
deeper (Here (Unexpected at)) room f outer g deep less = absurd deep
deeper (Here (TooMany at)) room f outer g deep less = absurd deep
deeper (Here Memory) room f outer g deep less = absurd deep
deeper End room f outer g deep less = absurd deep

pub deep_same : (stop : Stop) (room : ℕ) (f g : Pos → ℕ) → ((at : Pos) → f at ≡ g at) → IsDeep stop room f → IsDeep stop room g
deep_same stop room f g same deep = deeper stop room f room g deep (λ at some. let is = same at in omega (arith, is))

-- in the whole it lies one deeper
pub deep_over : (stop : Stop) (inner room : ℕ) (here : Pos → Bool) (f : Pos → ℕ) → room ≤ suc inner → IsDeep stop inner f → IsDeep stop room (λ at. over (here at) (f at))
deep_over stop inner room here f less deep = deeper stop inner f room (λ at. over (here at) (f at)) deep (λ at some. let more = over_more (here at) (f at) some in omega (arith, less, more))

pub deep_beside_left : (stop : Stop) (room : ℕ) (f g : Pos → ℕ) → IsDeep stop room f → IsDeep stop room (λ at. max (f at) (g at))
deep_beside_left stop room f g deep = deeper stop room f room (λ at. max (f at) (g at)) deep (λ at some. let high = le-max_left (f at) (g at) in omega (arith, high))

pub deep_beside_right : (stop : Stop) (room : ℕ) (f g : Pos → ℕ) → IsDeep stop room g → IsDeep stop room (λ at. max (f at) (g at))
deep_beside_right stop room f g deep = deeper stop room g room (λ at. max (f at) (g at)) deep (λ at some. let high = le-max_right (f at) (g at) in omega (arith, high))

pub deep_left : (stop : Stop) (room : ℕ) (here : Pos → Bool) (f g : Pos → ℕ) → IsDeep stop room f → IsDeep stop room (λ at. over (here at) (max (f at) (g at)))
deep_left stop room here f g deep = deep_over stop room room here (λ at. max (f at) (g at)) (omega arith) (deep_beside_left stop room f g deep)

pub deep_right : (stop : Stop) (inner room : ℕ) (here : Pos → Bool) (f g : Pos → ℕ) → room ≤ suc inner → IsDeep stop inner g → IsDeep stop room (λ at. over (here at) (max (f at) (g at)))
deep_right stop inner room here f g less deep = deep_over stop inner room here (λ at. max (f at) (g at)) less (deep_beside_right stop inner f g deep)

-- ---- a refusal of what stands inside

pub first_alike : (f : List Token) (t : Token) (more behind : List Token) → first_of (f ++ t ∷ more) ≡ first_of (f ++ t ∷ behind)
first_alike [] t more behind = refl
first_alike (first ∷ f) t more behind = refl

pub begins_so : {A : Type 0} (p : Production A) (room : ℕ) (front : List Token) → BeginsWithin p room front → Begins p front
begins_so p room front begins = let c = begins nowhere in record { some = c.some; more = c.more; tokens_are = c.tokens_are }

regroup : (w x y z : List Token) → (w ++ (x ++ y)) ++ z ≡ (w ++ x) ++ (y ++ z)
regroup w x y z = append_assoc w (x ++ y) z ∙ ap (λ ts. w ++ ts) (append_assoc x y z) ∙ sym (append_assoc w x (y ++ z))

pub within_inside : {A B : Type 0} (p : Production A) (room : ℕ) (q : Production B) (inner : ℕ) (front part : List Token) → ((at : Pos) (b : B) → Holds p room q inner front at b) → BeginsWithin q inner part → BeginsWithin p room (front ++ part)
within_inside p room q inner front part begins b = λ at.
    let c = b at in
    let whole = begins at c.some in
    record {
      some = whole.some;
      more = c.more ++ whole.more;
      tokens_are = whole.tokens_are ∙ ap (λ ts. (front ++ ts) ++ whole.more) c.tokens_are ∙ regroup front part c.more whole.more;
      within = λ other apart. whole.within other apart (c.within other apart);
    }

-- what is written lies within the room
pub begins_whole : {A : Type 0} (p : Production A) (room : ℕ) (some : A) → ((at : Pos) → p.lies some at ≤ room) → BeginsWithin p room (p.tokens some)
begins_whole p room some low = λ at. record { some = some; more = []; tokens_are = sym (append-nil (p.tokens some)); within = λ other apart. low other }

-- what is put there begins nowhere else
pub begins_new : {A : Type 0} (p : Production A) (room : ℕ) (new : Pos → A) → ((at other : Pos) → (other ≡ at → ⊥) → p.lies (new at) other ≡ 0) → BeginsWithin p room []
begins_new p room new alone = λ at. record { some = new at; more = p.tokens (new at); tokens_are = refl; within = λ other apart. let none = alone at other apart in omega (arith, none) }

-- another place
pub elsewhere : (at other : Pos) → (other ≡ at → ⊥) → is_place at other ≡ false
elsewhere at other apart = by (is_place at other) refl
  where
    same_there : (one two : Bool) → (at.line == other.line) ≡ one → (at.col == other.col) ≡ two → (one && two) ≡ true → other ≡ at
    same_there true true line col both = ap (λ n. record { line = n; col = other.col }) (sym (eqb-true at.line other.line line)) ∙ ap (λ n. record { line = at.line; col = n }) (sym (eqb-true at.col other.col col))
    same_there true false line col both = cc
    same_there false two line col both = cc

    by : (b : Bool) → is_place at other ≡ b → is_place at other ≡ false
    by false is = is
    by true is = absurd (apart (same_there (at.line == other.line) (at.col == other.col) refl refl is))

-- one token lies nowhere else
pub alone_elsewhere : (at other : Pos) → (other ≡ at → ⊥) → over (is_place at other) 0 ≡ 0
alone_elsewhere at other apart = ap (λ b. over b 0) (elsewhere at other apart)

-- the first that lies too deep in the part is so in the whole
first_inside : {A B : Type 0} (p : Production A) (room : ℕ) (q : Production B) (inner : ℕ) (front part : List Token) (place : Pos) → ((at : Pos) (b : B) → Holds p room q inner front at b) → IsFirstDeep q inner part place → IsFirstDeep p room (front ++ part) place
first_inside p room q inner front part place begins f =
    let whole = begins place f.some in
    record {
      some = whole.some;
      more = f.more ++ whole.more;
      tokens_are = whole.tokens_are ∙ ap (λ ts. (front ++ ts) ++ whole.more) f.tokens_are ∙ regroup front part f.more whole.more;
      ahead = front ++ f.ahead;
      named = f.named;
      between = f.between;
      front_is = ap (λ ts. front ++ ts) f.front_is ∙ sym (append_assoc front f.ahead (f.named ∷ f.between));
      named_is = f.named_is;
      deep = whole.deep (Here (TooDeep place)) f.deep;
      within = λ other apart. whole.within other (apart_there f.named.at other place apart.0 f.named_is) (f.within other apart);
    }

deep_inside : {A B : Type 0} (p : Production A) (room : ℕ) (q : Production B) (inner : ℕ) (front part : List Token) (t : Token) (fault : Fault) → ((at : Pos) (b : B) → Holds p room q inner front at b) → GoesDeep q inner part t fault → GoesDeep p room (front ++ part) t fault
deep_inside p room q inner front part t (TooDeep place) begins goes = subst (λ ts. IsFirstDeep p room ts place) (sym (append_assoc front part (t ∷ []))) (first_inside p room q inner front (part ++ t ∷ []) place begins goes)
deep_inside p room q inner front part t (Unexpected left) begins goes = tt
deep_inside p room q inner front part t (TooMany place) begins goes = tt
deep_inside p room q inner front part t Memory begins goes = tt

shown_inside : {A B : Type 0} (p : Production A) (room : ℕ) (q : Production B) (inner : ℕ) (front rest : List Token) (fault : Fault) → Inside p room q inner front rest → Shown q inner rest fault → Shown p room (front ++ rest) fault
shown_inside p room q inner front rest fault inside s = record {
  front = front ++ s.front;
  shown_by = s.shown_by;
  behind = s.behind;
  before_is = ap (λ ts. front ++ ts) s.before_is ∙ sym (append_assoc front s.front (s.shown_by ∷ s.behind));
  left_is = s.left_is;
  begins = within_inside p room q inner front s.front inside.begins s.begins;
  goes_on = deep_inside p room q inner front s.front s.shown_by fault inside.begins s.goes_on;
  none = λ more. finds_same _ p.read _ _ (append_assoc front s.front (s.shown_by ∷ more))
      (inside.finds (Here fault) (s.front ++ s.shown_by ∷ more) (first_alike s.front s.shown_by more s.behind ∙ sym (ap first_of s.before_is)) (s.none more));
}

pub refused_inside : {A B : Type 0} (p : Production A) (room : ℕ) (q : Production B) (inner : ℕ) (front rest : List Token) (stop : Stop) → Inside p room q inner front rest → Refused q inner rest stop → Refused p room (front ++ rest) stop
refused_inside p room q inner front rest (Here Memory) inside is = tt
refused_inside p room q inner front rest (Here (Unexpected at)) inside is = shown_inside p room q inner front rest (Unexpected at) inside is
refused_inside p room q inner front rest (Here (TooDeep at)) inside is = shown_inside p room q inner front rest (TooDeep at) inside is
refused_inside p room q inner front rest (Here (TooMany at)) inside is = shown_inside p room q inner front rest (TooMany at) inside is
refused_inside p room q inner front rest End inside is = (within_inside p room q inner front rest inside.begins is.0, inside.finds End rest refl is.1)

pub refused_same : {A : Type 0} (p : Production A) (room : ℕ) (before other : List Token) (stop : Stop) → before ≡ other → Refused p room other stop → Refused p room before stop
refused_same p room before other stop is refused = subst (λ ts. Refused p room ts stop) (sym is) refused

pub one_behind : (front : List Token) (t : Token) (tokens : List Token) → front ++ t ∷ tokens ≡ ((front ++ t ∷ []) ++ tokens) ++ []
one_behind front t tokens = sym (append-nil ((front ++ t ∷ []) ++ tokens) ∙ append_assoc front (t ∷ []) tokens)

pub finds_weaker : {A : Type 0} (P Q : A → Type 0) (read : ℕ → List Token → Read A) (ts : List Token) → ((a : A) → P a → Q a) → Finds P read ts → Finds Q read ts
finds_weaker P Q read ts weaker finds = record { steps = finds.steps; only = λ n. weaken (read (n + finds.steps) ts) (finds.only n) }
  where
    weaken : (r : Read _) → Only P r → Only Q r
    weaken None only = tt
    weaken (Some (a, rest)) only = weaker a only

-- there is no room over what was read, and the next token goes on with something over it
pub full : {A : Type 0} (p : Production A) (room : ℕ) (before front : List Token) (t : Token) (behind : List Token) (height : ℕ) (deepest : Pos) (stop : Stop) → IsTooDeep height deepest room stop → before ≡ front ++ t ∷ behind → BeginsWithin p room front → (room ≤ height → IsFirstDeep p room (front ++ t ∷ []) deepest)
    → ((more : List Token) → Finds (λ a. height < p.lies a deepest) p.read (front ++ t ∷ more)) → Refused p room before stop
full p room before front t behind height deepest (Here (TooDeep at)) deep before_is begins goes over_it = record {
  front = front;
  shown_by = t;
  behind = behind;
  before_is = before_is;
  left_is = tt;
  begins = begins;
  goes_on = subst (IsFirstDeep p room (front ++ t ∷ [])) (sym deep.1) (goes deep.0);
  none = λ more. finds_weaker _ _ p.read (front ++ t ∷ more) (λ a higher. there (p.lies a) deep.0 deep.1 higher) (over_it more);
}
  where
    there : (f : Pos → ℕ) → room ≤ height → at ≡ deepest → height < f deepest → room < f at
    there f low same higher = let is = ap f same in omega (arith, low, higher, is)
full p room before front t behind height deepest (Here (Unexpected at)) deep before_is begins goes over_it = absurd deep
full p room before front t behind height deepest (Here (TooMany at)) deep before_is begins goes over_it = absurd deep
full p room before front t behind height deepest (Here Memory) deep before_is begins goes over_it = absurd deep
full p room before front t behind height deepest End deep before_is begins goes over_it = absurd deep

-- ---- heights

pub over_both : (a b c d : ℕ) → a ≡ b → c ≡ d → suc (max a c) ≡ 1 + max b d
over_both a b c d one other = ap (λ x. suc (max x c)) one ∙ ap (λ x. suc (max b x)) other ∙ one_more (max b d)
  where
    one_more : (n : ℕ) → suc n ≡ 1 + n
    one_more n = omega arith

pub max_below : (a b c : ℕ) → a ≤ c → b ≤ c → max a b ≤ c
max_below a b c one other = omega (arith, one, other)

-- over what lies within one less
pub over_within : (here : Bool) (a inner room : ℕ) → inner < room → a ≤ inner → over here a ≤ room
over_within true zero inner room less low = omega (arith, less)
over_within false zero inner room less low = omega arith
over_within here (suc a) inner room less low = omega (arith, less, low)

pub node_within : (here : Bool) (a b inner room : ℕ) → inner < room → a ≤ inner → b ≤ inner → over here (max a b) ≤ room
node_within here a b inner room less one other = over_within here (max a b) inner room less (max_below a b inner one other)

-- a node over two that lie less deep
pub fits_below : (here : Bool) (a b room : ℕ) → a < room → b < room → over here (max a b) ≤ room
fits_below here a b (suc inner) one other = node_within here a b inner (suc inner) (omega arith) (omega (arith, one)) (omega (arith, other))
fits_below here a b zero one other = absurd (omega (arith, one))

pub fits_above : (room left right height : ℕ) → height ≡ suc (max left right) → left < room → right < room → height ≤ room
fits_above room left right height is one other = let low = max_below left right room (omega (arith, one)) (omega (arith, other)) in omega (arith, is, one, other)

-- What goes as deep as there is room for, and a node over it that goes on with this token: the first of its deepest is the
-- first that lies too deep, where what is put beside it begins at its place.
pub first_full : {A : Type 0} (p : Production A) (room : ℕ) (front : List Token) (t : Token) (some : A) (more : List Token) (here : Pos → Bool) (f g : Pos → ℕ) (height depth : ℕ) (place deepest : Pos) → p.tokens some ≡ front ++ t ∷ more
    → ((at : Pos) → p.lies some at ≡ over (here at) (max (f at) (g at))) → IsFirst front f depth deepest → place ≡ deepest → height ≡ depth → 1 ≤ depth → height ≤ room → ((other : Pos) → (other ≡ place → ⊥) → g other ≡ 0)
    → room ≤ height → IsFirstDeep p room (front ++ t ∷ []) place
first_full p room front t some more here f g height depth place deepest is lies_is first place_is height_is above fits alone full = record {
  some = some;
  more = more;
  tokens_are = is ∙ sym (append_assoc front (t ∷ []) more);
  ahead = first.ahead;
  named = first.named;
  between = first.later ++ t ∷ [];
  front_is = ap (λ ts. ts ++ t ∷ []) first.tokens_are ∙ append_assoc first.ahead (first.named ∷ first.later) (t ∷ []);
  named_is = first.named_is ∙ sym place_is;
  deep =
      let there : f place ≡ depth = ap f place_is ∙ first.lies_is in
      let deeper_there = over_left (here place) (f place) (g place) (omega (arith, there, above)) in
      let whole = lies_is place in
      omega (arith, there, deeper_there, whole, full, height_is);
  within = λ other apart.
      let less = first.less other (apart_front other (first.named ∷ first.later) (t ∷ []) apart) in
      let none = alone other (apart_there first.named.at other place apart.0 (first.named_is ∙ sym place_is)) in
      let whole = lies_is other in
      let low = fits_below (here other) (f other) (g other) room (omega (arith, less, height_is, fits)) (omega (arith, none, height_is, above, fits)) in
      omega (arith, whole, low);
}

-- what begins with this token where there is no room
pub first_here : {A : Type 0} (p : Production A) (room : ℕ) (t : Token) (some : A) (more : List Token) (place : Pos) → p.tokens some ≡ t ∷ more → t.at ≡ place → 0 < p.lies some place → ((other : Pos) → (other ≡ place → ⊥) → p.lies some other ≡ 0)
    → room ≤ 0 → IsFirstDeep p room (t ∷ []) place
first_here p room t some more place is there high alone none = record {
  some = some;
  more = more;
  tokens_are = is;
  ahead = [];
  named = t;
  between = [];
  front_is = refl;
  named_is = there;
  deep = omega (arith, high, none);
  within = λ other apart. let low = alone other (apart_there t.at other place apart.0 there) in omega (arith, low);
}

-- whatever is read
anything : {A : Type 0} (r : Read A) → Only (λ a. ⊤) r
anything None = tt
anything (Some (a, rest)) = tt

pub finds_anything : {A : Type 0} (read : ℕ → List Token → Read A) (ts : List Token) → Finds (λ a. ⊤) read ts
finds_anything read ts = record { steps = 0; only = λ n. anything (read (n + 0) ts) }

-- ---- further steps

-- behind something that was read behind other tokens
pub finds_after : {A B : Type 0} (P : A → Type 0) (read : ℕ → List Token → Read A) (sub : ℕ → List Token → Read B) (f : ℕ → B → List Token → Read A) (level : ℕ) (ts tokens : List Token) (value : B) (tail : List Token)
    → ((n : ℕ) → read (suc n) ts ≡ go_on (sub n (tokens ++ tail)) (f n)) → Reads sub level tokens value → Beyond level tail → Finds P (λ n us. f n value us) tail → Finds P read ts
finds_after P read sub f level ts tokens value tail is reads beyond finds = record {
  steps = suc (finds.steps + reads.steps);
  only = λ n.
      let up : n + suc (finds.steps + reads.steps) ≡ suc ((n + finds.steps) + reads.steps) = omega arith in
      let over : (n + finds.steps) + reads.steps ≡ (n + reads.steps) + finds.steps = omega arith in
      only_is P _ _ (ap (λ m. read m ts) up ∙ is ((n + finds.steps) + reads.steps) ∙ ap (λ r. go_on r (f ((n + finds.steps) + reads.steps))) (reads.reads (n + finds.steps) tail beyond) ∙ ap (λ m. f m value tail) over)
      (finds.only (n + reads.steps));
}

pub finds_behind_now : {A B : Type 0} (P : A → Type 0) (read : ℕ → List Token → Read A) (sub : ℕ → List Token → Read B) (f : ℕ → B → List Token → Read A) (level : ℕ) (tokens : List Token) (value : B) (tail : List Token)
    → ((n : ℕ) → read n (tokens ++ tail) ≡ go_on (sub n (tokens ++ tail)) (f n)) → Reads sub level tokens value → Beyond level tail → Finds P (λ n us. f n value us) tail → Finds P read (tokens ++ tail)
finds_behind_now P read sub f level tokens value tail is reads beyond finds = record {
  steps = finds.steps + reads.steps;
  only = λ n.
      let up : n + (finds.steps + reads.steps) ≡ (n + finds.steps) + reads.steps = omega arith in
      let over : (n + finds.steps) + reads.steps ≡ (n + reads.steps) + finds.steps = omega arith in
      only_is P _ _ (ap (λ m. read m (tokens ++ tail)) up ∙ is ((n + finds.steps) + reads.steps) ∙ ap (λ r. go_on r (f ((n + finds.steps) + reads.steps))) (reads.reads (n + finds.steps) tail beyond) ∙ ap (λ m. f m value tail) over)
      (finds.only (n + reads.steps));
}

-- without a step between
pub finds_now : {A B : Type 0} (Q : B → Type 0) (P : A → Type 0) (read : ℕ → List Token → Read A) (sub : ℕ → List Token → Read B) (f : ℕ → B → List Token → Read A) (ts us : List Token)
    → ((n : ℕ) → read n ts ≡ go_on (sub n us) (f n)) → ((n : ℕ) (b : B) (rest : List Token) → Q b → Only P (f n b rest)) → Finds Q sub us → Finds P read ts
finds_now Q P read sub f ts us is each finds = record {
  steps = finds.steps;
  only = λ n. only_is P _ _ (is (n + finds.steps)) (only_go_on Q P (sub (n + finds.steps) us) (f (n + finds.steps)) (finds.only n) (each (n + finds.steps)));
}

-- what the next token tells is the same of all that begin with it
pub next_level_same : (a b : List Token) → first_of a ≡ first_of b → next_level a ≡ next_level b
next_level_same [] [] is = refl
next_level_same [] (t ∷ ts) is = cc
next_level_same (t ∷ ts) [] is = cc
next_level_same (t ∷ ts) (u ∷ us) is = ap (λ (v : Token). kind_level v.kind) (same_token t u is)
  where
    same_token : (v w : Token) → Some v ≡ Some w → v ≡ w
    same_token v w eq = cc

pub keyword_next_same : (n : ℕ) (a b : List Token) → first_of a ≡ first_of b → is_keyword_next n a ≡ is_keyword_next n b
keyword_next_same n [] [] is = refl
keyword_next_same n [] (t ∷ ts) is = cc
keyword_next_same n (t ∷ ts) [] is = cc
keyword_next_same n (t ∷ ts) (u ∷ us) is = ap (λ (v : Token). is_keyword n v.kind) (same_token t u is)
  where
    same_token : (v w : Token) → Some v ≡ Some w → v ≡ w
    same_token v w eq = cc

-- ---- tokens regrouped

pub two_behind : (front : List Token) (t : Token) (b x : List Token) → front ++ t ∷ (b ++ x) ≡ ((front ++ t ∷ []) ++ b) ++ x
two_behind front t b x = sym (append_assoc (front ++ t ∷ []) b x ∙ append_assoc front (t ∷ []) (b ++ x))

pub one_between : (front : List Token) (t : Token) (b : List Token) (u : Token) (x : List Token) → front ++ t ∷ (b ++ u ∷ x) ≡ ((front ++ t ∷ b) ++ u ∷ []) ++ x
one_between front t b u x = sym (append_assoc (front ++ t ∷ b) (u ∷ []) x ∙ append_assoc front (t ∷ b) (u ∷ x))

pub last_behind : (front : List Token) (t : Token) (b : List Token) (u : Token) (c : List Token) → front ++ t ∷ (b ++ u ∷ c) ≡ ((front ++ t ∷ (b ++ u ∷ [])) ++ c) ++ []
last_behind front t b u c = sym (append-nil ((front ++ t ∷ (b ++ u ∷ [])) ++ c) ∙ append_assoc front (t ∷ (b ++ u ∷ [])) c ∙ ap (λ ts. front ++ t ∷ ts) (append_assoc b (u ∷ []) c))
