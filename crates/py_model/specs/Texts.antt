-- Texts as UTF-8 bytes and their characters (The Python Language Reference 3, section 2.4.1; The Unicode Standard, section 3.9).
use Rattle.std.specs.Prelude.{ℕ, zero, suc, ◌+◌, ◌-◌, ◌*◌, ℤ, pos, neg_ℤ, Bool, true, false, ◌&&◌, ◌||◌, ◌==◌, nat_le, nat_lt, if◌then◌else◌, List, [], ◌∷◌, ◌++◌, length, drop, replicate, Option, Some, None, option_map}
use Rattle.std.specs.Str.{bytes_eq}

-- a byte that goes on with a character
abbrev pub is_continuation : ℕ → Bool
is_continuation byte = nat_le 128 byte && nat_lt byte 192

-- a byte in front of the first character
abbrev pub onto_first : ℕ → List (List ℕ) → List (List ℕ)
onto_first byte [] = (byte ∷ []) ∷ []
onto_first byte (first ∷ rest) = (byte ∷ first) ∷ rest

-- the characters, each as its bytes
abbrev pub characters : List ℕ → List (List ℕ)
characters [] = []
characters (byte ∷ []) = (byte ∷ []) ∷ []
characters (byte ∷ (next ∷ bytes)) = if is_continuation next then onto_first byte (characters (next ∷ bytes)) else (byte ∷ []) ∷ characters (next ∷ bytes)

-- how many characters
abbrev pub size : List ℕ → ℕ
size bytes = length (characters bytes)

-- the bytes of characters
abbrev pub joined : List (List ℕ) → List ℕ
joined [] = []
joined (character ∷ rest) = character ++ joined rest

-- a text stands before another, by code points, which is by bytes
abbrev pub is_before : List ℕ → List ℕ → Bool
is_before one [] = false
is_before [] (b ∷ other) = true
is_before (a ∷ one) (b ∷ other) = if nat_lt a b then true else if nat_lt b a then false else is_before one other

-- the bytes begin with others, and end with them
abbrev pub begins_with : List ℕ → List ℕ → Bool
begins_with bytes [] = true
begins_with [] (b ∷ sought) = false
begins_with (a ∷ bytes) (b ∷ sought) = (a == b) && begins_with bytes sought

abbrev pub ends_with : List ℕ → List ℕ → Bool
ends_with bytes sought = nat_le (length sought) (length bytes) && bytes_eq (drop (length bytes - length sought) bytes) sought

-- how many bytes stand before others, where these stand first
abbrev pub place_of : List ℕ → List ℕ → Option ℕ
place_of [] sought = if begins_with [] sought then Some 0 else None
place_of (byte ∷ bytes) sought = if begins_with (byte ∷ bytes) sought then Some 0 else option_map suc (place_of bytes sought)

-- The pieces between separators, which are not empty. So many bytes of a separator are still to be passed.
abbrev pub pieces_after : ℕ → List ℕ → List ℕ → List (List ℕ)
pieces_after n separator [] = [] ∷ []
pieces_after (suc n) separator (byte ∷ bytes) = pieces_after n separator bytes
pieces_after zero separator (byte ∷ bytes) = elim (begins_with (byte ∷ bytes) separator) [
  | true ↦ [] ∷ pieces_after (length separator - 1) separator bytes
  | false ↦ onto_first byte (pieces_after 0 separator bytes)
]

abbrev pub pieces : List ℕ → List ℕ → List (List ℕ)
pieces separator bytes = pieces_after 0 separator bytes

-- the texts with a separator between them
abbrev pub joined_by : List ℕ → List (List ℕ) → List ℕ
joined_by separator [] = []
joined_by separator (first ∷ []) = first
joined_by separator (first ∷ next ∷ rest) = first ++ (separator ++ joined_by separator (next ∷ rest))

-- white space is a space, `\t`, `\n`, `\r`, 11 and 12
abbrev pub is_white : ℕ → Bool
is_white byte = (byte == 32) || (nat_le 9 byte && nat_le byte 13)

abbrev pub without_white_front : List ℕ → List ℕ
without_white_front [] = []
without_white_front (byte ∷ bytes) = if is_white byte then without_white_front bytes else byte ∷ bytes

abbrev pub without_white_back : List ℕ → List ℕ
without_white_back [] = []
without_white_back (byte ∷ bytes) = in_front byte (without_white_back bytes)
  where
    in_front : ℕ → List ℕ → List ℕ
    in_front first [] = if is_white first then [] else first ∷ []
    in_front first (next ∷ rest) = first ∷ next ∷ rest

abbrev pub without_white : List ℕ → List ℕ
without_white bytes = without_white_back (without_white_front bytes)

-- the words between runs of white space
abbrev pub pieces_by_white : List ℕ → List (List ℕ)
pieces_by_white [] = [] ∷ []
pieces_by_white (byte ∷ bytes) = elim (is_white byte) [
  | true ↦ [] ∷ pieces_by_white bytes
  | false ↦ onto_first byte (pieces_by_white bytes)
]

abbrev pub filled : List (List ℕ) → List (List ℕ)
filled [] = []
filled ([] ∷ rest) = filled rest
filled ((byte ∷ bytes) ∷ rest) = (byte ∷ bytes) ∷ filled rest

abbrev pub words_of : List ℕ → List (List ℕ)
words_of bytes = filled (pieces_by_white bytes)

-- ASCII digits
abbrev pub is_digit : ℕ → Bool
is_digit byte = nat_le 48 byte && nat_le byte 57

abbrev pub are_digits : List ℕ → Bool
are_digits [] = true
are_digits (byte ∷ bytes) = is_digit byte && are_digits bytes

abbrev pub all_digits : List ℕ → Bool
all_digits [] = false
all_digits (byte ∷ bytes) = are_digits (byte ∷ bytes)

-- the number that digits write behind a number, and the integer that a text writes: white space around, a sign, digits
abbrev pub digits_value : ℕ → List ℕ → ℕ
digits_value n [] = n
digits_value n (byte ∷ bytes) = digits_value (n * 10 + (byte - 48)) bytes

abbrev pub number_written : List ℕ → Option ℕ
number_written bytes = if all_digits bytes then Some (digits_value 0 bytes) else None

abbrev pub int_written : List ℕ → Option ℤ
int_written bytes = signed (without_white bytes)
  where
    negative : ℕ → ℤ
    negative n = neg_ℤ (pos n)

    signed : List ℕ → Option ℤ
    signed [] = None
    signed (byte ∷ rest) = if byte == 45 then option_map negative (number_written rest) else if byte == 43 then option_map pos (number_written rest) else option_map pos (number_written (byte ∷ rest))

-- the code is a character's: no half of a pair
abbrev pub is_scalar : ℕ → Bool
is_scalar code = nat_lt code 0xD800 || (nat_le 0xE000 code && nat_lt code 0x110000)

-- ASCII letters in upper case and in lower case
abbrev pub upper_of : ℕ → ℕ
upper_of byte = if nat_le 97 byte && nat_le byte 122 then byte - 32 else byte

abbrev pub lower_of : ℕ → ℕ
lower_of byte = if nat_le 65 byte && nat_le byte 90 then byte + 32 else byte

-- so many spaces
abbrev pub spaces : ℕ → List ℕ
spaces n = replicate n 32
