-- Operations on atoms (this project's profile): values that are, and hold in tuples, no object, no function and no class of a script.
use Rattle.std.specs.Prelude.{Bool, true, false, ◌&&◌}
use Rattle.py_value.specs.Contents.{Contents, Parts, tuple, function, class, object, no_parts, part}

abbrev mutual
  pub is_atom : Contents → Bool
  is_atom (function place) = false
  is_atom (class place) = false
  is_atom (object number) = false
  is_atom (tuple parts) = are_atoms parts
  is_atom other = true

  pub are_atoms : Parts → Bool
  are_atoms no_parts = true
  are_atoms (part first rest) = is_atom first && are_atoms rest
