-- No public clause cites this file.
-- What values are to operations on attributes.
use Rattle.py_value.specs.declared.value.Value.{Value}
use Rattle.py_value.specs.declared.value.Value.TheVariants.{Text, Tuple, Class, Exc, Builtin, Object}
use Rattle.op_attributes.specs.declared.kinds.Holder.{Holder}
use Rattle.op_attributes.specs.declared.kinds.Holder.TheVariants.{Object as ObjectHolder, Class as ClassHolder, Text as TextHolder, Tuple as TupleHolder, Builtin as BuiltinHolder, Plain}

abbrev pub holder_in : Value → Holder
holder_in (Object o) = ObjectHolder o
holder_in (Class place) = ClassHolder
holder_in (Exc number) = ClassHolder
holder_in (Text id) = TextHolder
holder_in (Tuple id) = TupleHolder
holder_in (Builtin number) = BuiltinHolder number
holder_in other = Plain
