-- An input that is read behind its header.
use Rattle.std.proofs.Common.{◌≡◌, ℕ, ◌<◌, ◌≤◌, true, false, List, [], ◌++◌, length, take, Some, None, Option, IfSome, sym, ap, ◌∙◌, subst, arith, length-append, length-drop, append_assoc, ⊎_elim, nat_lt, nat_le, ◌||◌, ◌&&◌, ◌-◌, ◌+◌, drop}
use Rattle.std.proofs.lemmas.List.{take-append-le, drop-append-le, length-take, take-append-drop, take_all, append-nil}
use Rattle.std.proofs.lemmas.Bool.{true≢false, cases_lt, lt-ltb, le-ltb, le-leb}
use Rattle.std.specs.Option.{option_map}
use Rattle.std.specs.Io.KnownBytes.{Consumes, IsAtEnd}
use Rattle.script.specs.Files.{allows, begins, fits, header_of, wants}
use Rattle.std.proofs.Math.Seq.{drop-append_seam, take-append-add}
use Rattle.script.specs.declared.script.calls.Header.{Header}
use Rattle.script.specs.Reads.{HopelessStay, NextByte, Reads}

-- a script may begin with each start of a file
abbrev pub Starts : List ℕ → Type 0
Starts file = (k : ℕ) → k ≤ length file → begins (take k file) ≡ true

-- fewer than eight bytes may begin a script
pub short : (file : List ℕ) → length file < 8 → begins file ≡ true
short file l = ap (λ b. b || allows (header_of file) (length (drop 8 file))) (lt-ltb (length file) 8 l)

-- bytes that are read behind others
pub consumed_more : (old mid new : Option (List ℕ)) (bs cs : List ℕ) → Consumes old mid bs → Consumes mid new cs → Consumes old new (bs ++ cs)
consumed_more None mid new bs cs a b = tt
consumed_more (Some xs) None new bs cs a b = absurd a
consumed_more (Some xs) (Some ys) None bs cs a b = absurd b
consumed_more (Some xs) (Some ys) (Some zs) bs cs a b = a ∙ ap (λ t. bs ++ t) b ∙ sym (append_assoc bs cs zs)

-- an input that was read to its end
pub read_whole : (old new : Option (List ℕ)) (file : List ℕ) → Consumes old new file → IsAtEnd new → Starts file → IfSome old (Reads file)
read_whole None new file c e s = tt
read_whole (Some xs) None file c e s = absurd c
read_whole (Some xs) (Some ys) file c e s =
    let all : xs ≡ file = c ∙ ap (λ t. file ++ t) e ∙ append-nil file in
    record { start = (ys, c); whole = λ _. all; needed = λ k l. s k (omega arith) }

-- each start of a file of fewer than eight bytes may begin a script
pub starts_short : (file : List ℕ) → length file < 8 → Starts file
starts_short file l k h = short (take k file) (omega (arith, length-take k file))

-- a script may go on behind a header as far as one byte less is wanted
pub allowed_below : (h : Header) (n : ℕ) → allows h n ≡ true → n < wants h
allowed_below h n e = grind arith

-- and no further
pub below_allowed : (h : Header) (n : ℕ) → n < wants h → allows h n ≡ true
below_allowed h n l = grind arith

-- what stands behind a header
pub behind_header : (head more : List ℕ) → length head ≡ 8 → drop 8 (head ++ more) ≡ more
behind_header head more e = subst (λ n. drop n (head ++ more) ≡ more) e (drop-append_seam head more)

-- and the header is that of the bytes before
pub same_header : (head more : List ℕ) → 8 ≤ length head → header_of (head ++ more) ≡ header_of head
same_header head more l =
    let a : take 4 (head ++ more) ≡ take 4 head = take-append-le 4 head more (omega arith) in
    let b : drop 4 (head ++ more) ≡ drop 4 head ++ more = drop-append-le 4 head more (omega arith) in
    let s : 4 ≤ length (drop 4 head) = omega (arith, length-drop 4 head) in
    let c : take 4 (drop 4 (head ++ more)) ≡ take 4 (drop 4 head) = ap (take 4) b ∙ take-append-le 4 (drop 4 head) more s in
    rw (a, c)

-- what a header does not allow no further bytes make fit
pub allowed_none : (h : Header) (n m : ℕ) → allows h n ≡ false → fits h (n + m) ≡ false
allowed_none h n m e = grind arith

pub not_short : (file : List ℕ) → begins file ≡ false → 8 ≤ length file
not_short file e = ⊎_elim (λ (x : length file < 8). absurd (true≢false (sym (short file x) ∙ e))) (λ (x : 8 ≤ length file). x) (cases_lt (length file) 8)

pub hopeless_stay : HopelessStay
hopeless_stay file rest e =
    let l = not_short file e in
    let f : nat_lt (length file) 8 ≡ false = le-ltb (length file) 8 l in
    let a : allows (header_of file) (length (drop 8 file)) ≡ false = rw f at e in
    let d : drop 8 (file ++ rest) ≡ drop 8 file ++ rest = drop-append-le 8 file rest l in
    let n : fits (header_of file) (length (drop 8 file ++ rest)) ≡ false =
    rw (length-append (drop 8 file) rest) (allowed_none (header_of file) (length (drop 8 file)) (length rest) a) in
    let g : nat_le 8 (length (file ++ rest)) ≡ true = le-leb 8 (length (file ++ rest)) (omega (arith, length-append file rest)) in
    ap (λ b. b && fits (header_of (file ++ rest)) (length (drop 8 (file ++ rest)))) g
    ∙ ap (λ h. fits h (length (drop 8 (file ++ rest)))) (same_header file rest l)
    ∙ ap (λ z. fits (header_of file) (length z)) d ∙ n

-- so what follows decides whether a script may begin with all
pub begins_behind : (head more : List ℕ) → length head ≡ 8 → begins (head ++ more) ≡ allows (header_of head) (length more)
begins_behind head more e =
    let l : nat_lt (length (head ++ more)) 8 ≡ false = le-ltb (length (head ++ more)) 8 (omega (arith, length-append head more)) in
    ap (λ b. b || allows (header_of (head ++ more)) (length (drop 8 (head ++ more)))) l
    ∙ ap (λ h. allows h (length (drop 8 (head ++ more)))) (same_header head more (omega arith))
    ∙ ap (λ z. allows (header_of head) (length z)) (behind_header head more e)

-- a header, and as much behind it as is wanted
behind : (head rest : List ℕ) → length head ≡ 8 → Reads (head ++ take (wants (header_of head)) rest) (head ++ rest)
behind head rest e =
    let n = wants (header_of head) in
    let all = length-append head (take n rest) in
    record {
      start = (drop n rest, ap (λ z. head ++ z) (sym (take-append-drop n rest)) ∙ sym (append_assoc head (take n rest) (drop n rest)));
      whole = λ b.
          let few : length (take n rest) < n = allowed_below (header_of head) (length (take n rest)) (sym (begins_behind head (take n rest) e) ∙ b) in
          ap (λ z. head ++ z) (sym (take_all n rest (omega (arith, length-take n rest))));
      needed = λ k l.
          ⊎_elim
          (λ (x : k < 8). short (take k (head ++ take n rest)) (omega (arith, length-take k (head ++ take n rest))))
          (λ (x : 8 ≤ k).
          let m : 8 + (k - 8) ≡ k = omega arith in
          let cut : take k (head ++ take n rest) ≡ head ++ take (k - 8) (take n rest) =
          ap (λ z. take z (head ++ take n rest)) (sym m ∙ ap (λ z. z + (k - 8)) (sym e)) ∙ take-append-add head (take n rest) (k - 8) in
          ap begins cut ∙ begins_behind head (take (k - 8) (take n rest)) e
          ∙ below_allowed (header_of head) (length (take (k - 8) (take n rest))) (omega (arith, length-take (k - 8) (take n rest), length-take n rest)))
          (cases_lt k 8);
    }

-- an input that was read behind its header
pub read_behind : (old new : Option (List ℕ)) (head file : List ℕ) → Consumes old new head → length head ≡ 8 → IfSome new (λ rest. file ≡ head ++ take (wants (header_of head)) rest) → IfSome old (Reads file)
read_behind None new head file c e f = tt
read_behind (Some xs) None head file c e f = absurd c
read_behind (Some xs) (Some ys) head file c e f = subst (λ z. Reads file z) (sym c) (subst (λ z. Reads z (head ++ ys)) (sym f) (behind head ys e))

-- an input that ended within the header
pub read_short : (old mid new : Option (List ℕ)) (file : List ℕ) (next : Option ℕ) → Consumes old mid file → length file < 8 → next ≡ None → NextByte mid new next → IfSome old (Reads file)
read_short old mid new file next c l e n =
    let none : NextByte mid new None = subst (NextByte mid new) e n in
    let all = subst (λ (f : List ℕ). Consumes old new f) (append-nil file) (consumed_more old mid new file [] c none.0) in
    read_whole old new file all none.1 (starts_short file l)

-- what was read through a limit
pub taken : (known : Option (List ℕ)) (n m : ℕ) (head file : List ℕ) → n ≡ m → IfSome (option_map (take n) known) (λ xs. file ≡ head ++ xs) → IfSome known (λ rest. file ≡ head ++ take m rest)
taken None n m head file e f = tt
taken (Some ys) n m head file e f = subst (λ k. file ≡ head ++ take k ys) e f
