-- What is promised of a call. Assumes nothing.
use Rattle.std.specs.Prelude.{◌≡◌, true, false, List, ◌++◌, ◌⊎◌, ℕ, ◌<◌, ◌≤◌, length, drop}
use Rattle.image.specs.Image.{words_of, machine_of, is_image}
use Rattle.outside.specs.Asked.{is_asked, answer_words}
use Rattle.outside.specs.Call.{step_called, called}
use Rattle.rules.specs.declared.Done.{Done}
use Rattle.step.specs.Answer.{number_of}
use Rattle.writes.specs.declared.Write.{Write}

module _ (s : List ℕ) (ws : List Write) (asked a : List ℕ) where
  abbrev step : Done
  step = (step_called s ws asked).done

  -- The number of a call: 15, 2, 14, then that of its step.
  pub record NumberOrder : Type 0 where
    pub short : length a < 2 → (called s ws asked a).number ≡ 15
    pub unasked : 2 ≤ length a → is_asked asked ≡ false → (called s ws asked a).number ≡ 2
    pub unreadable : 2 ≤ length a → is_asked asked ≡ true → is_image s ≡ false → (called s ws asked a).number ≡ 14
    pub stepped : 2 ≤ length a → is_asked asked ≡ true → is_image s ≡ true → (called s ws asked a).number ≡ number_of step.answer

  -- A refused call leaves state, list and answer as they came.
  pub record Keeps : Type 0 where
    pub state : (called s ws asked a).state ≡ s
    pub writes : (called s ws asked a).writes ≡ ws
    pub answer : (called s ws asked a).answer ≡ a

  -- A taken call was lent an image, asked a step that is taken, and had room for the answer. It leaves the image of the step's machine,
  -- from which the next call goes on, the step's list and the two words of its answer; what follows image and answer is as it came.
  pub record Takes : Type 0 where
    pub image : is_image s ≡ true
    pub asks : is_asked asked ≡ true
    pub room : 2 ≤ length a
    pub taken : number_of step.answer ≡ 0
    pub state : (called s ws asked a).state ≡ words_of step.machine ++ drop 1160 s
    pub again : is_image (called s ws asked a).state ≡ true
    pub machine : machine_of (called s ws asked a).state ≡ step.machine
    pub writes : (called s ws asked a).writes ≡ (step_called s ws asked).writes
    pub answer : (called s ws asked a).answer ≡ answer_words step.answer ++ drop 2 a

abbrev pub CallOrdered : Type 0
CallOrdered = (s : List ℕ) (ws : List Write) (asked a : List ℕ) → NumberOrder s ws asked a

abbrev pub CallKeeps : Type 0
CallKeeps = (s : List ℕ) (ws : List Write) (asked a : List ℕ) → 0 < (called s ws asked a).number → Keeps s ws asked a

abbrev pub CallTakes : Type 0
CallTakes = (s : List ℕ) (ws : List Write) (asked a : List ℕ) → (called s ws asked a).number ≡ 0 → Takes s ws asked a

-- A call's number is 0, 2 or one of 6 to 15.
abbrev pub CallNumbered : Type 0
CallNumbered =
    (s : List ℕ) (ws : List Write) (asked a : List ℕ)
    → ((called s ws asked a).number ≡ 0) ⊎ ((called s ws asked a).number ≡ 2)
    ⊎ ((6 ≤ (called s ws asked a).number) × ((called s ws asked a).number ≤ 15))
