-- Equality of contents and of locations as tests, and a map that is changed at one location (this project's profile).
use Rattle.std.specs.Prelude.{Bool, true, false, ◌&&◌, ◌==◌, Option, Some, if◌then◌else◌}
use Rattle.std.specs.Ordering.{int_eq}
use Rattle.std.specs.Str.{bytes_eq}
use Rattle.prov_base.specs.contracts.place.PosPartialEq.TheImpl.{ghosts as places}
use Rattle.py_value.specs.Contents.{Contents, Parts, nothing, truth, int, text, tuple, range, function, class, exception_class, builtin, object, no_parts, part}
use Rattle.py_value.specs.Seen.{SeenLocation, SeenContent, var_at, len_at, item_at, entry_at, order_at, file_at, offset_at, closed_at, method_at, base_at}

abbrev pub same_truth : Bool → Bool → Bool
same_truth true b = b
same_truth false true = false
same_truth false false = true

-- the same value: the same integer is no truth value
abbrev mutual
  pub same_value : Contents → Contents → Bool
  same_value nothing nothing = true
  same_value (truth a) (truth b) = same_truth a b
  same_value (int i) (int j) = int_eq i j
  same_value (text one) (text other) = bytes_eq one other
  same_value (tuple ps) (tuple qs) = same_parts ps qs
  same_value (range a b c) (range d e f) = int_eq a d && (int_eq b e && int_eq c f)
  same_value (function p) (function q) = places.eq p q
  same_value (class p) (class q) = places.eq p q
  same_value (exception_class m) (exception_class n) = m == n
  same_value (builtin m) (builtin n) = m == n
  same_value (object m) (object n) = m == n
  same_value v w = false

  pub same_parts : Parts → Parts → Bool
  same_parts no_parts no_parts = true
  same_parts (part v ps) (part w qs) = same_value v w && same_parts ps qs
  same_parts ps qs = false

-- the same location
abbrev pub same_location : SeenLocation → SeenLocation → Bool
same_location (var_at a name) (var_at b other) = (a == b) && bytes_eq name other
same_location (len_at o) (len_at p) = o == p
same_location (item_at o i) (item_at p j) = (o == p) && (i == j)
same_location (entry_at o key) (entry_at p other) = (o == p) && same_value key other
same_location (order_at o) (order_at p) = o == p
same_location (file_at path) (file_at other) = bytes_eq path other
same_location (offset_at o) (offset_at p) = o == p
same_location (closed_at o) (closed_at p) = o == p
same_location (method_at place name) (method_at at other) = places.eq place at && bytes_eq name other
same_location (base_at place) (base_at at) = places.eq place at
same_location l m = false

-- the map with a content put at a location
abbrev pub put : SeenLocation → SeenContent → (SeenLocation → Option SeenContent) → SeenLocation → Option SeenContent
put l c store m = if same_location l m then Some c else store m
