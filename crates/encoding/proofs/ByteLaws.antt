-- What is written of a command reads back: its byte, its constant's bytes, its terms. Assumes nothing.
use Rattle.std.specs.Prelude.{◌≡◌, Bool, true, false, cond, List, [], ◌∷◌, ◌++◌, ℕ, zero, suc, ◌+◌, ◌-◌, ◌*◌, ◌/◌, ◌%◌}
use Rattle.std.specs.Prelude.{◌^◌, ◌≤◌, ◌<◌, eqb, ltb, length, get_or, take, drop}
use Rattle.std.proofs.Math.Path.{refl, ap}
use Rattle.std.proofs.Common.{sym, ap₂, subst, ◌∙◌, append_assoc, arith, lt-ltb, le-ltb, ltb-true, ltb-false, eqb-true}
use Rattle.std.proofs.Common.{length-append, length-drop, shr_lt, length-take-le, drop-cons, get_or-append-add, take_at}
use Rattle.std.proofs.Common.{get_or-take, get_or-drop, ext_get_or}
use Rattle.std.proofs.Math.Pow.{split, high, low}
use Rattle.std.proofs.Math.Seq.{get_or-append_seam, drop-append_seam}
use Rattle.shares.specs.Constant.{constant_levels, number, bytes_at}
use Rattle.format.specs.declared.Section.{Section}
use Rattle.format.specs.declared.Section.TheVariants.{FirstPositive, FirstDisequation, SecondPositive}
use Rattle.format.specs.declared.Section.TheVariants.{SecondDisequation}
use Rattle.format.specs.declared.Test.{Test}
use Rattle.format.specs.declared.Test.TheVariants.{Join, Equality, Full, Empty, Together}
use Rattle.format.specs.declared.Shape.{Shape}
use Rattle.std.specs.Prelude.{Option, Some, None}
use Rattle.format.specs.declared.Command.{Command}
use Rattle.format.specs.Format.{Step, Take, Refused, entry_of, term_count, operands, term_byte, command_of, whole_at}
use Rattle.format.specs.Format.{read_at}
use Rattle.format.proofs.FormatLaws.{term_small, branch, size}
use Rattle.format.proofs.KeepingLaws.{Bytes, take_bytes, command_proper}
use Rattle.encoding.specs.Worked
use Rattle.encoding.specs.Encode.{clause_byte, command_byte, lowest_bytes, constant_bytes, shape_of, operand_bytes}
use Rattle.encoding.specs.Encode.{encode_command}

-- ---- a number's bytes

-- its bytes make it again, where it fits them
pub number_back : (n x : ℕ) → x < 2 ^ (8 * n) → number (lowest_bytes n x) ≡ x
unfolding lowest_bytes number
number_back zero x h = omega arith
number_back (suc n) x h =
    let e : 8 * suc n ≡ 8 * n + 8 = omega arith in
    ap (λ m. m * 2 ^ 8 + x % 2 ^ 8) (number_back n (x / 2 ^ 8) (shr_lt (8 * n) 8 (rw e at h))) ∙ split x 8

pub bytes_length : (n x : ℕ) → length (lowest_bytes n x) ≡ n
unfolding lowest_bytes
bytes_length zero x = refl
bytes_length (suc n) x = ap suc (bytes_length n (x / 2 ^ 8))

-- bytes are those of the number that they make
pub bytes_back : (l : List ℕ) → Bytes l → lowest_bytes (length l) (number l) ≡ l
unfolding lowest_bytes number
bytes_back [] h = refl
bytes_back (b ∷ l) h = ap₂ ◌∷◌ (low (number l) 8 (h 0)) (ap (lowest_bytes (length l)) (high (number l) 8 (h 0))
    ∙ bytes_back l (λ i. h (suc i)))

-- ---- command bytes

-- what a known byte announces has that byte
Announces : ℕ → Option Shape → Type 0
Announces b (Some h) = command_byte h ≡ b
Announces b None = Unit {0}

-- one line of the table
row : (b n : ℕ) (h : Shape) (e : Option Shape) → command_byte h ≡ n → Announces b e
    → Announces b (cond (eqb b n) (Some h) e)
unfolding Announces
row b n h e c f = branch (Announces b) (eqb b n) (Some h) e (λ t. c ∙ sym (eqb-true b n t)) (λ _. f)

announced : (b : ℕ) → Announces b (entry_of b)
unfolding entry_of Announces
announced b =
    row b 0x00 Shape.End _ refl
    (row b 0x01 Shape.Head _ refl
    (row b 0x03 Shape.Constant _ refl
    (row b 0x10 (Shape.Clause FirstPositive Join) _ refl
    (row b 0x11 (Shape.Clause FirstDisequation Join) _ refl
    (row b 0x12 (Shape.Clause FirstPositive Equality) _ refl
    (row b 0x13 (Shape.Clause FirstDisequation Equality) _ refl
    (row b 0x20 (Shape.Clause SecondPositive Join) _ refl
    (row b 0x21 (Shape.Clause SecondDisequation Join) _ refl
    (row b 0x22 (Shape.Clause SecondPositive Equality) _ refl
    (row b 0x23 (Shape.Clause SecondDisequation Equality) _ refl
    (row b 0x30 (Shape.Clause FirstPositive Full) _ refl
    (row b 0x31 (Shape.Clause FirstDisequation Empty) _ refl
    (row b 0x32 (Shape.Clause FirstPositive Together) _ refl
    (row b 0x38 (Shape.Clause SecondPositive Full) _ refl
    (row b 0x39 (Shape.Clause SecondDisequation Empty) _ refl
    (row b 0x3A (Shape.Clause SecondPositive Together) None refl tt))))))))))))))))

-- the byte of what a byte announces is that byte
pub command_byte_lem : (b : ℕ) (h : Shape) → entry_of b ≡ Some h → command_byte h ≡ b
unfolding Announces
command_byte_lem b h e = rw e at (announced b)

-- ---- a command that reads back

-- the terms that a test does not take are 0
abbrev Absent : Test → ℕ → ℕ → Type 0
Absent t b c = (cond (ltb 1 (term_count t)) b 0 ≡ b) × (cond (ltb 2 (term_count t)) c 0 ≡ c)

-- a command that can be written after the head: its constant fits, its byte is known, its terms are those of its test
abbrev pub Readable : Command → Type 0
Readable Command.End = Unit {0}
Readable Command.Head = ⊥
Readable (Command.Constant x) = x < 2 ^ (8 * bytes_at constant_levels)
Readable (Command.Clause σ t a b c) = (entry_of (clause_byte σ t) ≡ Some (Shape.Clause σ t)) × Absent t b c

entry_back : (c : Command) → Readable c → entry_of (command_byte (shape_of c)) ≡ Some (shape_of c)
unfolding entry_of
entry_back Command.End r = refl
entry_back Command.Head r = refl
entry_back (Command.Constant x) r = refl
entry_back (Command.Clause σ t a b c) r = r.0

terms_length : (t : Test) (a b c : ℕ) → length (take (term_count t) (a ∷ b ∷ c ∷ [])) ≡ term_count t
terms_length Join a b c = refl
terms_length Equality a b c = refl
terms_length Full a b c = refl
terms_length Empty a b c = refl
terms_length Together a b c = refl

operands_length : (c : Command) → Readable c → length (operand_bytes c) ≡ operands (shape_of c)
operands_length Command.End r = refl
operands_length Command.Head r = absurd r
operands_length (Command.Constant x) r = bytes_length (bytes_at constant_levels) x
operands_length (Command.Clause σ t a b c) r = terms_length t a b c

pub size_shape : (c : Command) → size c ≡ 1 + operands (shape_of c)
size_shape Command.End = refl
size_shape Command.Head = refl
size_shape (Command.Constant x) = refl
size_shape (Command.Clause σ t a b c) = refl

pub encoded_length : (c : Command) → Readable c → length (encode_command c) ≡ size c
encoded_length c r = omega (arith, operands_length c r, size_shape c)

module _ (p rest : List ℕ) where
  -- byte number k of what follows p
  past : (l : List ℕ) (k : ℕ) → get_or (p ++ l) (length p + k) 0 ≡ get_or l k 0
  past l k = get_or-append-add p l k 0

  terms_back : (σ : Section) (t : Test) (a b c : ℕ) → Absent t b c
      → command_of (p ++ (take (term_count t) (a ∷ b ∷ c ∷ []) ++ rest)) (length p) (Shape.Clause σ t)
      ≡ Command.Clause σ t a b c
  unfolding command_of
  terms_back σ Join a b c h = rw (past (a ∷ b ∷ c ∷ rest) 0, past (a ∷ b ∷ c ∷ rest) 1, past (a ∷ b ∷ c ∷ rest) 2) refl
  terms_back σ Equality a b c h = rw (past (a ∷ b ∷ rest) 0, past (a ∷ b ∷ rest) 1, ← h.1) refl
  terms_back σ Full a b c h = rw (past (a ∷ rest) 0, ← h.0, ← h.1) refl
  terms_back σ Empty a b c h = rw (past (a ∷ rest) 0, ← h.0, ← h.1) refl
  terms_back σ Together a b c h = rw (past (a ∷ b ∷ rest) 0, past (a ∷ b ∷ rest) 1, ← h.1) refl

  constant_back : (x : ℕ) → x < 2 ^ (8 * bytes_at constant_levels)
      → command_of (p ++ (constant_bytes constant_levels x ++ rest)) (length p) Shape.Constant ≡ Command.Constant x
  unfolding command_of
  constant_back x h =
      let n = bytes_at constant_levels in
      ap (λ l. Command.Constant (number (take n l))) (drop-append_seam p (lowest_bytes n x ++ rest))
      ∙ ap (λ l. Command.Constant (number l)) (take_at (lowest_bytes n x) rest n (bytes_length n x))
      ∙ ap Command.Constant (number_back n x h)

  operands_back : (c : Command) → Readable c → command_of (p ++ (operand_bytes c ++ rest)) (length p) (shape_of c) ≡ c
  unfolding command_of
  operands_back Command.End r = refl
  operands_back Command.Head r = absurd r
  operands_back (Command.Constant x) r = constant_back x r
  operands_back (Command.Clause σ t a b c) r = terms_back σ t a b c r.1

-- a command that is written where it is due is read there
pub read_back : (p rest : List ℕ) (c : Command) → Readable c → read_at (p ++ (encode_command c ++ rest)) (length p)
    ≡ Take c (length p + size c)
unfolding read_at whole_at
read_back p rest c r =
    let b = command_byte (shape_of c) in
    let s : List ℕ = p ++ (encode_command c ++ rest) in
    let n : length s ≡ length p + (1 + operands (shape_of c) + length rest) =
    simp length-append (omega (arith, operands_length c r)) in
    let known : entry_of (get_or s (length p) 0) ≡ Some (shape_of c) =
    ap entry_of (get_or-append_seam p b (operand_bytes c ++ rest) 0) ∙ entry_back c r in
    let before : length (p ++ (b ∷ [])) ≡ length p + 1 = simp length-append in
    let whole : command_of s (length p + 1) (shape_of c) ≡ c =
    ap₂ (λ l i. command_of l i (shape_of c)) (sym (append_assoc p (b ∷ []) (operand_bytes c ++ rest))) (sym before)
    ∙ operands_back (p ++ (b ∷ [])) rest c r in
    let next : length p + 1 + operands (shape_of c) ≡ length p + size c = omega (arith, size_shape c) in
    rw (
      lt-ltb (length p) (length s) (omega arith),
      known,
      le-ltb (length s - (length p + 1)) (operands (shape_of c)) (omega arith),
      whole,
      next,
    ) refl

-- ---- a command that is read stands there as it is written

-- the first terms of a list, as many as a test takes, and 0 for the others
abbrev selected : ℕ → List ℕ → ℕ → ℕ
selected n l k = cond (ltb k n) (get_or l k 0) 0

select_at : (n : ℕ) (l : List ℕ) → n ≤ 3 → (i : ℕ) → i < n
    → get_or (selected n l 0 ∷ selected n l 1 ∷ selected n l 2 ∷ []) i 0 ≡ get_or l i 0
select_at n l m zero h = rw (lt-ltb 0 n (omega arith)) refl
select_at n l m (suc zero) h = rw (lt-ltb 1 n (omega arith)) refl
select_at n l m (suc (suc zero)) h = rw (lt-ltb 2 n (omega arith)) refl
select_at n l m (suc (suc (suc i))) h = absurd (omega arith)

select_first : (n : ℕ) (l : List ℕ) → n ≤ 3 → n ≤ length l
    → take n (selected n l 0 ∷ selected n l 1 ∷ selected n l 2 ∷ []) ≡ take n l
select_first n l m h =
    let t : List ℕ = selected n l 0 ∷ selected n l 1 ∷ selected n l 2 ∷ [] in
    let e : length (take n t) ≡ n = length-take-le n t m in
    ext_get_or 0 (take n t) (take n l) (e ∙ sym (length-take-le n l h)) (λ i u.
    get_or-take n t i 0 (rw e at u) ∙ select_at n l m i (rw e at u) ∙ sym (get_or-take n l i 0 (rw e at u)))

-- c stands at an offset: it can be written, and the bytes there are what is written of it
abbrev pub StandsAt : List ℕ → ℕ → Command → Type 0
StandsAt s at c = Readable c × (take (size c) (drop at s) ≡ encode_command c)

-- so does a command that is read there, but for a head, which is at fault after the first
abbrev pub Again : List ℕ → ℕ → Command → Type 0
Again s at Command.End = StandsAt s at Command.End
Again s at Command.Head = Unit {0}
Again s at (Command.Constant x) = StandsAt s at (Command.Constant x)
Again s at (Command.Clause σ t a b c) = StandsAt s at (Command.Clause σ t a b c)

-- so does what reading gives there
abbrev pub AgainStep : List ℕ → ℕ → Step → Type 0
AgainStep s at (Take c next) = Again s at c
AgainStep s at (Refused n) = Unit {0}

twice : (b : Bool) (x : ℕ) → cond b (cond b x 0) 0 ≡ cond b x 0
twice true x = refl
twice false x = refl

module _ (s : List ℕ) (bytes : Bytes s) (at : ℕ) (l : at < length s) where
  rest_length : length (drop (at + 1) s) ≡ length s - (at + 1)
  rest_length = length-drop (at + 1) s

  -- the command byte, and then its operands
  byte_first : (h : Shape) → entry_of (get_or s at 0) ≡ Some h → take (1 + operands h) (drop at s) ≡ command_byte h
      ∷ take (operands h) (drop (at + 1) s)
  byte_first h e =
      let n : 1 + operands h ≡ suc (operands h) = omega arith in
      let i : suc at ≡ at + 1 = omega arith in
      rw (n, drop-cons s at 0 l, i, ← command_byte_lem (get_or s at 0) h e) refl

  constant_stands : bytes_at constant_levels ≤ length s - (at + 1)
      → constant_bytes constant_levels (number (take (bytes_at constant_levels) (drop (at + 1) s)))
      ≡ take (bytes_at constant_levels) (drop (at + 1) s)
  constant_stands f =
      let n = bytes_at constant_levels in
      let r : List ℕ = take n (drop (at + 1) s) in
      let b : Bytes r = take_bytes n (drop (at + 1) s) (λ j. rw get_or-drop (bytes (at + 1 + j))) in
      subst (λ m. lowest_bytes m (number r) ≡ r) (length-take-le n (drop (at + 1) s) (omega (arith, rest_length)))
      (bytes_back r b)

  terms_stand : (t : Test) → term_count t ≤ length s - (at + 1)
      → take (term_count t) (term_byte s (at + 1) (term_count t) 0 ∷ term_byte s (at + 1) (term_count t) 1
      ∷ term_byte s (at + 1) (term_count t) 2 ∷ [])
      ≡ take (term_count t) (drop (at + 1) s)
  terms_stand t f = simp get_or-drop at
      (select_first (term_count t) (drop (at + 1) s) (term_small t) (omega (arith, rest_length)))

  again : (h : Shape) → entry_of (get_or s at 0) ≡ Some h → operands h ≤ length s - (at + 1)
      → Again s at (command_of s (at + 1) h)
  unfolding command_of
  again Shape.End e f = (tt, byte_first Shape.End e)
  again Shape.Head e f = tt
  again Shape.Constant e f = (
    command_proper s bytes (at + 1) Shape.Constant,
    byte_first Shape.Constant e
        ∙ ap (λ r. command_byte Shape.Constant ∷ r) (sym (constant_stands f)),
  )
  again (Shape.Clause σ t) e f =
      let n = term_count t in (
        (
          ap entry_of (command_byte_lem (get_or s at 0) (Shape.Clause σ t) e) ∙ e,
          (twice (ltb 1 n) _, twice (ltb 2 n) _),
        ),
        byte_first (Shape.Clause σ t) e ∙ ap (λ r. command_byte (Shape.Clause σ t) ∷ r) (sym (terms_stand t f)),
      )

-- every command of a string of bytes stands there as it is written
pub read_again : (s : List ℕ) → Bytes s → (at : ℕ) → AgainStep s at (read_at s at)
unfolding read_at whole_at
read_again s bytes at =
    branch (AgainStep s at) (ltb at (length s)) _ (Refused 2)
    (λ l. entry (ltb-true at (length s) l) (entry_of (get_or s at 0)) refl) (λ _. tt)
  where
    entry : at < length s → (e : Option Shape) → entry_of (get_or s at 0) ≡ e → AgainStep s at (whole_at s at e)
    entry l None e = tt
    entry l (Some h) e =
        branch (AgainStep s at) (ltb (length s - (at + 1)) (operands h)) (Refused 2)
        (Take (command_of s (at + 1) h) (at + 1 + operands h)) (λ _. tt)
        (λ f. again s bytes at l h e (ltb-false (length s - (at + 1)) (operands h) f))
