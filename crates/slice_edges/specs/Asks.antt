-- Pairs of statements, of which the first asks for the second, and why.
use Rattle.std.specs.Prelude.{ℕ, ◌==◌, ◌&&◌, Bool, true, false, List}
use Rattle.std.specs.List.{list_any}
use Rattle.py_model.specs.declared.moment.How.{How}
use Rattle.py_model.specs.declared.moment.How.TheVariants.{Normal, Break, Continue, Return, Raise}
use Rattle.slice_law.specs.Edges.{Edge, Reason, by_data, by_name, by_control, by_jump}
use Rattle.slice_edges.specs.declared.ask.Ask.{Ask}
use Rattle.slice_edges.specs.declared.ask.Why.{Why}
use Rattle.slice_edges.specs.declared.ask.Why.TheVariants.{Data, Control, Jump, Name}

-- a pair is among these
abbrev pub among : List Ask → ℕ → ℕ → Bool
among asks s r = list_any (λ (a : Ask). (a.asker == s) && (a.asked == r)) asks

-- one of these edges has this asker and asks for this statement
abbrev pub some_asks : List Edge → ℕ → ℕ → Bool
some_asks edges s r = list_any (λ (e : Edge). (e.asker == s) && (e.asked == r)) edges

-- the reason that is told
abbrev pub reason_of : Why → Reason
reason_of Data = by_data
reason_of Control = by_control
reason_of Jump = by_jump
reason_of Name = by_name

abbrev pub same_reason : Reason → Reason → Bool
same_reason by_data by_data = true
same_reason by_name by_name = true
same_reason by_control by_control = true
same_reason by_jump by_jump = true
same_reason own other = false

-- who asks, and for which reason, is this
abbrev pub is_by : Reason → ℕ → Reason → ℕ → Bool
is_by own asker reason s = (asker == s) && same_reason own reason

-- a pair with its reason is among these
abbrev pub among_by : List Ask → Reason → ℕ → ℕ → Bool
among_by asks reason s r = list_any (λ (a : Ask). is_by (reason_of a.why) a.asker reason s && (a.asked == r)) asks

-- one of these edges has this reason, has this asker and asks for this statement
abbrev pub some_ask_by : List Edge → Reason → ℕ → ℕ → Bool
some_ask_by edges reason s r = list_any (λ (e : Edge). is_by e.reason e.asker reason s && (e.asked == r)) edges

-- a statement ended by a jump
abbrev pub is_jump : How → Bool
is_jump Normal = false
is_jump Break = true
is_jump Continue = true
is_jump Return = true
is_jump Raise = true
