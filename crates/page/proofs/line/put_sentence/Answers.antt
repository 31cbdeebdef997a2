use mathlib.Core.Logic.{inl, inr}
use native.Mathlib.Omega.{arith}
use Rattle.page.specs.PageLine.{no_nul_text, per_character_text, sentence}
use Rattle.page.proofs.line.put_sentence.Goals as goal

pub returns-in-UnexpectedEof : goal.returns-in-UnexpectedEof
unfolding sentence
returns-in-UnexpectedEof c = record { put = rw c.in-UnexpectedEof.is c.put_eof.ensures.put; upper_bound = c.put_eof.ensures.upper_bound }

pub returns-in-NoNul : goal.returns-in-NoNul
unfolding sentence no_nul_text
returns-in-NoNul c = record { put = rw c.in-NoNul.is c.put_number.ensures.put; upper_bound = omega (arith, c.put_number.ensures.upper_bound) }

pub returns-in-PerCharacter : goal.returns-in-PerCharacter
unfolding sentence per_character_text
returns-in-PerCharacter c = record { put = rw c.in-PerCharacter.is c.put_number-in-PerCharacter.ensures.put; upper_bound = omega (arith, c.put_number-in-PerCharacter.ensures.upper_bound) }

pub returns-in-IllFormedUtf8 : goal.returns-in-IllFormedUtf8
unfolding sentence
returns-in-IllFormedUtf8 c = record { put = rw c.in-IllFormedUtf8.is c.put_ill_formed.ensures.put; upper_bound = c.put_ill_formed.ensures.upper_bound }

pub returns-in-SectionSize : goal.returns-in-SectionSize
unfolding sentence
returns-in-SectionSize c = record { put = rw c.in-SectionSize.is c.put_section_size.ensures.put; upper_bound = c.put_section_size.ensures.upper_bound }

pub returns-in-PastSection : goal.returns-in-PastSection
unfolding sentence
returns-in-PastSection c = record { put = rw c.in-PastSection.is c.put_past_section.ensures.put; upper_bound = c.put_past_section.ensures.upper_bound }

-- those that no walk gives
pub returns-in-TooLong : goal.returns-in-TooLong
unfolding sentence
returns-in-TooLong c =
    let put = c.put_bytes.ensures in
    record {
      put =
          elim c.in-TooLong.is [
            | inl e ↦ rw e.1 put
            | inr r1 ↦ elim r1 [
              | inl e ↦ rw e.1 put
              | inr r2 ↦ elim r2 [
                | inl e ↦ rw e.2 put
                | inr r3 ↦ elim r3 [
                  | inl e ↦ rw e.1 put
                  | inr r4 ↦ elim r4 [
                    | inl e ↦ rw e.1 put
                    | inr r5 ↦ elim r5 [
                      | inl e ↦ rw e.2 put
                      | inr r6 ↦ elim r6 [
                        | inl e ↦ rw e.2 put
                        | inr r7 ↦ elim r7 [
                          | inl e ↦ rw e.2 put
                          | inr r8 ↦ elim r8 [
                            | inl e ↦ rw e.1 put
                            | inr r9 ↦ elim r9 [
                              | inl e ↦ rw e put
                              | inr r10 ↦ rw r10.2 put
                            ]
                          ]
                        ]
                      ]
                    ]
                  ]
                ]
              ]
            ]
          ];
      upper_bound = omega (arith, c.put_bytes.ensures.put.place);
    }
