-- What a line of input prints: one section a line at place 0, little-endian, with lists at full length.
use Rattle.std.specs.Prelude.{ℕ, ◌/◌, cond, List, length, take, replicate}
use Rattle.core_read.specs.declared.cursor.ByteOrder.TheVariants.{Little}
use Rattle.digits.specs.Digits.{even_line}
use Rattle.digits.specs.declared.Line.{Line}
use Rattle.lines.specs.Answers.{section_line, bad_text}
use Rattle.strip_read.specs.Read.{read_section}
use Rattle.strip_records.specs.Whole.{Lists, lists}
use Rattle.strip_header.specs.Header.{SectionAnswer}

unfoldable pub full_lists : Lists
full_lists = lists (replicate 2040 0) (replicate 32767 0) (replicate 510 0) (replicate 510 0)

-- the answer of the section at place 0
unfoldable pub answer_of : List ℕ → SectionAnswer
answer_of s = (read_section Little s 0 full_lists).answer

-- what a line prints whose digits have filled these bytes: two digits a byte, or it spells none
unfoldable pub answer_to : List ℕ → Line → List ℕ
answer_to bytes l = cond (even_line l (length bytes)) (section_line (answer_of (take (l.digits / 2) bytes))) bad_text
