-- The numbers of the exception classes of the language: their places among the names of the classes.
use Rattle.std.specs.Prelude.{ℕ}
use Rattle.op_work.specs.declared.exceptions.Exception.{Exception}
use Rattle.op_work.specs.declared.exceptions.Exception.TheVariants.{Exception as AnyException, ArithmeticError, ZeroDivisionError, OverflowError, LookupError, IndexError, KeyError, NameError, UnboundLocalError, TypeError, ValueError, AttributeError, RuntimeError, NotImplementedError, RecursionError, OSError, FileNotFoundError, EOFError, AssertionError}

abbrev pub class_number : Exception → ℕ
class_number AnyException = 0
class_number ArithmeticError = 1
class_number ZeroDivisionError = 2
class_number OverflowError = 3
class_number LookupError = 4
class_number IndexError = 5
class_number KeyError = 6
class_number NameError = 7
class_number UnboundLocalError = 8
class_number TypeError = 9
class_number ValueError = 10
class_number AttributeError = 11
class_number RuntimeError = 12
class_number NotImplementedError = 13
class_number RecursionError = 14
class_number OSError = 15
class_number FileNotFoundError = 16
class_number EOFError = 17
class_number AssertionError = 18
