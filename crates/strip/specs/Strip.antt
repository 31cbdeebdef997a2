-- A list of section writes, the strip that it leaves, and what reading the strip gives. All in terms of the definitions that the contracts
-- of `read_section` and `write_section` cite.
use Rattle.std.specs.Prelude.{◌≡◌, ℕ, List, [], ◌∷◌, length, take, Err, Ok}
use Rattle.core_read.specs.declared.cursor.ByteOrder.{ByteOrder}
use Rattle.strip_records.specs.Whole.{Lists, Full, Whole}
use Rattle.strip.specs.Same.{Same, read_whole}
use Rattle.strip_read.specs.Read.{read_section, lists_after}
use Rattle.strip_write.specs.Write.{write_answer, write_output}
use Rattle.strip_header.specs.declared.Section.TheVariants as Sections
use Rattle.core_checks.specs.Checks.{Written}

unfoldable pub All : {A : Type 0} → (A → Type 0) → List A → Type 0
All P [] = Unit {0}
All P (x ∷ xs) = P x × All P xs

-- what a list of writes leaves: the output, the place of the next write, what the accepted ones were handed (the kept list), and their ends
pub record Run : Type 0 where
  pub out : List ℕ
  pub place : ℕ
  pub kept : List Whole
  pub ends : List ℕ

-- the next write goes to the end that this one answered, or to the same place again
unfoldable pub step : Written → Whole → (ℕ → Run) → ℕ → Run
step (Ok e) w go p = record { out = (go e).out; place = (go e).place; kept = w ∷ (go e).kept; ends = e ∷ (go e).ends }
step (Err why) w go p = go p

-- each write gets the output as the one before left it
unfoldable pub run_from : ByteOrder → List Whole → List ℕ → ℕ → Run
unfolding step
run_from order [] o p = record { out = o; place = p; kept = []; ends = [] }
run_from order (w ∷ ws) o p = step (write_answer w (length o) p) w (λ q. run_from order ws (write_output order w o p) q) p

-- the first is made at place 0
abbrev pub run : ByteOrder → List Whole → List ℕ → Run
run order ws o = run_from order ws o 0

-- what each of them answers, refusals included; the next one is made at the place of `next_place`
abbrev pub next_place : Written → ℕ → ℕ
next_place (Ok e) p = e
next_place (Err why) p = p

unfoldable pub answers_from : ByteOrder → List Whole → List ℕ → ℕ → List Written
answers_from order [] o p = []
answers_from order (w ∷ ws) o p =
    let a : Written = write_answer w (length o) p in
    a ∷ answers_from order ws (write_output order w o p) (next_place a p)

abbrev pub answers : ByteOrder → List Whole → List ℕ → List Written
answers order ws o = answers_from order ws o 0

-- the strip: the output up to the last end that a write answered, empty where none was accepted
abbrev pub strip : Run → List ℕ
strip t = take t.place t.out

-- lists as long as each other, and equal record by record
unfoldable pub SameAll : List Whole → List Whole → Type 0
SameAll [] [] = Unit {0}
SameAll [] (b ∷ others) = ⊥
SameAll (a ∷ rest) [] = ⊥
SameAll (a ∷ rest) (b ∷ others) = Same a b × SameAll rest others

-- a read of s at p with l lent gives a pane and the next place e, and its record, with its lists as they stand right after the read and its
-- label in the strip, is equal to w
pub record Gave (order : ByteOrder) (s : List ℕ) (p : ℕ) (l : Lists) (w : Whole) (e : ℕ) : Type 0 where
  pub end : ℕ
  pub reach : ℕ
  pub answer : (read_section order s p l).answer ≡ Ok (Sections.Pane end e reach)
  pub same : Same (read_whole s (read_section order s p l).«record» (lists_after order s p l)) w

-- reading s from p, section by section, each at the next place that the one before gave, each with any full lists, gives these records and
-- next places, and then the end
unfoldable pub Gives : ByteOrder → List ℕ → ℕ → List Whole → List ℕ → Type 0
Gives order s p [] [] = (l : Lists) → Full l → (read_section order s p l).answer ≡ Ok Sections.End
Gives order s p [] (e ∷ es) = ⊥
Gives order s p (w ∷ ws) [] = ⊥
Gives order s p (w ∷ ws) (e ∷ es) = ((l : Lists) → Full l → Gave order s p l w e) × Gives order s e ws es
