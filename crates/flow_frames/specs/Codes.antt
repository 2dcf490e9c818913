-- The operations of statements (this project's profile): the number of each, the text that it names and the value that it names.
use Rattle.std.specs.Prelude.{ℕ, pos, true}
use Rattle.py_value.specs.Contents.{Contents, nothing, truth, int, function, class}
use Rattle.py_model.specs.Statements.{augmented_number, module_of}
use Rattle.interp_eval.specs.Machine.{Want, plain, a_name, a_variable}
use Rattle.flow_frames.specs.declared.codes.Code.{Code}
use Rattle.flow_frames.specs.declared.codes.Code.TheVariants.{Truth, Load, Sign, Item, SetItem, DeleteItem, Field, SetField, Bind, Unbind, Clear, Size, Next, Unpack, Raise, Match, Function, Class, Import, Close, Enter, Fail, NoCall}

abbrev pub code_number : Code → ℕ
code_number Truth = 3
code_number (Load name) = 1
code_number (Sign sign) = augmented_number sign
code_number Item = 26
code_number SetItem = 28
code_number DeleteItem = 29
code_number (Field name) = 30
code_number (SetField name) = 31
code_number (Bind name) = 33
code_number (Unbind name) = 34
code_number (Clear name) = 34
code_number (Unpack count) = 35
code_number Size = 36
code_number Next = 37
code_number Raise = 40
code_number Match = 41
code_number (Function name at) = 42
code_number (Class name at) = 43
code_number (Import name) = 44
code_number Close = 45
code_number Enter = 46
code_number Fail = 47
code_number (NoCall reason) = 38

abbrev pub code_want : Code → Want
code_want (Load name) = a_variable name.now
code_want (Field name) = a_name name.now
code_want (SetField name) = a_name name.now
code_want (Bind name) = a_variable name.now
code_want (Unbind name) = a_variable name.now
code_want (Clear name) = a_variable name.now
code_want (Function name at) = a_name name.now
code_want (Class name at) = a_name name.now
code_want (Import name) = a_variable name.now
code_want code = plain

abbrev pub code_value : Code → Contents
code_value (Clear name) = truth true
code_value (Unpack count) = int (pos count)
code_value (NoCall reason) = int (pos reason)
code_value (Function name at) = function at
code_value (Class name at) = class at
code_value (Import name) = module_of name.now
code_value code = nothing
