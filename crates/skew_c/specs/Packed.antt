-- How a number with a place, or with a slack, stands in one integer of 64 bits: the number in the low 32. In the 32 above these stands the
-- place of a refusal, or the slack of an answered question, in two's complement. RULES 15.5: "A refusal carries no slack. An answered question
-- has number 0, place 0 and a slack."
use Rattle.std.specs.Prelude.{Bool, cond, ◌&&◌, ℕ, ◌+◌, ◌*◌, ◌/◌, ◌%◌, ℤ, pos, negsuc, eqb, Ok, Err}
use Rattle.std.specs.Int.Signed.{le_z}
use Rattle.whole.specs.Four.{word_of, signed_of}
use Rattle.paper.specs.Numbers.{Outcome, Reply, refusal_place, outcome_number, outcome_place, reply_number}

-- 4294967296 is 2^32
abbrev pub packed : (number above : ℕ) → ℕ
packed number above = number + above * 4294967296

abbrev pub packed_outcome : Outcome → ℕ
packed_outcome o = packed (outcome_number o) (outcome_place o)

-- what stands above the number of a reply
abbrev pub above_of : Reply → ℕ
above_of (Ok d) = word_of d.0
above_of (Err x) = refusal_place x

abbrev pub packed_reply : Reply → ℕ
packed_reply o = packed (reply_number o) (above_of o)

-- -2^31, which lies below every slack (`no_slack_below`): what a caller reads as the slack of a refusal, so that one who forgets to ask for the
-- number takes no rule for met
abbrev pub no_slack : ℤ
no_slack = negsuc 2147483647

abbrev pub slack_of : Reply → ℤ
slack_of (Ok d) = d.0
slack_of (Err x) = no_slack

-- what a caller reads out of the integer: `skew_number`, `skew_place`, `skew_slack` and `skew_yes` of the header
abbrev pub number_in : ℕ → ℕ
number_in r = r % 4294967296

abbrev pub place_in : ℕ → ℕ
place_in r = cond (eqb (number_in r) 0) 0 (r / 4294967296)

abbrev pub slack_in : ℕ → ℤ
slack_in r = cond (eqb (number_in r) 0) (signed_of (r / 4294967296)) no_slack

abbrev pub yes_in : ℕ → Bool
yes_in r = eqb (number_in r) 0 && le_z (pos 0) (slack_in r)
