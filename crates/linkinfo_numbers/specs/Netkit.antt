-- The numbers and words of `netkit` links.
use Rattle.std.specs.Prelude.{◌≡◌, ◌==◌, ℕ, if◌then◌else◌, List, [], ◌∷◌, codes, Result, refl}
use Rattle.std.specs.Fmt.{decimal}
use Rattle.std.proofs.Common.{inl, inr}
use Rattle.std.proofs.lemmas.Bool.Decides.{Decides-eqb}
use Rattle.nla_frame.specs.declared.error.Family.TheVariants as family
use Rattle.nla_frame.specs.declared.error.DecodeError.{DecodeError}
use Rattle.linkinfo_numbers.specs.declared.netkit.NetkitMode.{NetkitMode}
use Rattle.linkinfo_numbers.specs.declared.netkit.NetkitMode.TheVariants as mode
use Rattle.linkinfo_numbers.specs.declared.netkit.NetkitPolicy.{NetkitPolicy}
use Rattle.linkinfo_numbers.specs.declared.netkit.NetkitPolicy.TheVariants as policy
use Rattle.linkinfo_numbers.specs.declared.netkit.NetkitScrub.{NetkitScrub}
use Rattle.linkinfo_numbers.specs.declared.netkit.NetkitScrub.TheVariants as scrub
use Rattle.linkinfo_numbers.specs.Table.{Table, IsTable, by_number, value_of}
use Rattle.linkinfo_numbers.specs.Word.{value_of_word, ReadsWords, reads_words}

-- Begin: written by tables/generate from tables/numbers/netkit.
-- the number of each value
abbrev pub netkit_mode_number : NetkitMode → ℕ
netkit_mode_number mode.L2 = 0
netkit_mode_number mode.L3 = 1
netkit_mode_number (mode.Other n) = n

abbrev pub netkit_mode_table : Table ℕ NetkitMode
netkit_mode_table = by_number netkit_mode_number mode.Other (mode.L2 ∷ mode.L3 ∷ [])

-- the value of each number
abbrev pub netkit_mode : ℕ → NetkitMode
netkit_mode n = value_of netkit_mode_table n

pub netkit_mode_table_holds : IsTable netkit_mode_table
netkit_mode_table_holds = record {
  same_decides = Decides-eqb;
  other_key = λ n. refl;
  found = elim [ mode.Other n ↦ inl refl | _ ↦ inr refl ];
  apart = (λ p. cc, (λ p. cc, tt));
}

-- the text of each value
abbrev pub netkit_mode_text : NetkitMode → List ℕ
netkit_mode_text mode.L2 = codes "l2"
netkit_mode_text mode.L3 = codes "l3"
netkit_mode_text (mode.Other n) = decimal n

-- the value that a word names, or the error
abbrev pub netkit_mode_of_word : List ℕ → Result NetkitMode DecodeError
netkit_mode_of_word word = value_of_word family.Netkit netkit_mode_text netkit_mode_table.named word

pub netkit_mode_words_hold : ReadsWords family.Netkit netkit_mode_text netkit_mode_table.named
netkit_mode_words_hold =
    reads_words family.Netkit netkit_mode_text netkit_mode_table.named (refl, (refl, tt))

-- the number of each value
abbrev pub netkit_policy_number : NetkitPolicy → ℕ
netkit_policy_number policy.Pass = 0
netkit_policy_number policy.Drop = 2
netkit_policy_number policy.Redirect = 7
netkit_policy_number (policy.Other n) = n

abbrev pub netkit_policy_table : Table ℕ NetkitPolicy
netkit_policy_table =
    by_number netkit_policy_number policy.Other (policy.Pass ∷ policy.Drop ∷ policy.Redirect ∷ [])

-- the value of each number
abbrev pub netkit_policy : ℕ → NetkitPolicy
netkit_policy n = value_of netkit_policy_table n

pub netkit_policy_table_holds : IsTable netkit_policy_table
netkit_policy_table_holds = record {
  same_decides = Decides-eqb;
  other_key = λ n. refl;
  found = elim [ policy.Other n ↦ inl refl | _ ↦ inr refl ];
  apart = (λ p. cc, (λ p. cc, (λ p. cc, tt)));
}

-- the text of each value
abbrev pub netkit_policy_text : NetkitPolicy → List ℕ
netkit_policy_text policy.Pass = codes "forward"
netkit_policy_text policy.Drop = codes "blackhole"
netkit_policy_text policy.Redirect = codes "redirect"
netkit_policy_text (policy.Other n) = decimal n

-- the value that a word names, or the error
abbrev pub netkit_policy_of_word : List ℕ → Result NetkitPolicy DecodeError
netkit_policy_of_word word =
    value_of_word family.Netkit netkit_policy_text netkit_policy_table.named word

pub netkit_policy_words_hold : ReadsWords family.Netkit netkit_policy_text netkit_policy_table.named
netkit_policy_words_hold = reads_words family.Netkit netkit_policy_text netkit_policy_table.named
    (refl, (refl, (refl, tt)))

-- End: written by tables/generate.

-- the number of each value
abbrev pub netkit_scrub_number : NetkitScrub → ℕ
netkit_scrub_number scrub.None = 0
netkit_scrub_number scrub.Default = 1

-- the value of each number: every number but 0 is `Default`
abbrev pub netkit_scrub : ℕ → NetkitScrub
netkit_scrub n = if n == 0 then scrub.None else scrub.Default

-- the text of each value
abbrev pub netkit_scrub_text : NetkitScrub → List ℕ
netkit_scrub_text scrub.None = codes "none"
netkit_scrub_text scrub.Default = codes "default"

abbrev pub netkit_scrubs : List NetkitScrub
netkit_scrubs = scrub.None ∷ scrub.Default ∷ []

-- the value that a word names, or the error
abbrev pub netkit_scrub_of_word : List ℕ → Result NetkitScrub DecodeError
netkit_scrub_of_word word = value_of_word family.Netkit netkit_scrub_text netkit_scrubs word

pub netkit_scrub_words_hold : ReadsWords family.Netkit netkit_scrub_text netkit_scrubs
netkit_scrub_words_hold = reads_words family.Netkit netkit_scrub_text netkit_scrubs (
  refl,
  (refl, tt),
)

-- a value converted to its number and back is that value
pub netkit_scrub-number : (x : NetkitScrub) → netkit_scrub (netkit_scrub_number x) ≡ x
netkit_scrub-number scrub.None = refl
netkit_scrub-number scrub.Default = refl
