-- What single frames and fetches do, gathered from where each is proved.
use Rattle.link.specs.Road.{Road}
use Rattle.link.specs.Proofs.Fair.{Fair}
use Rattle.link.specs.Proofs.Transport.Answers.{Says}
use Rattle.link.specs.Proofs.Transport.Before.{before_answer, before_frame, must_begin}
use Rattle.link.specs.Proofs.Transport.Fetches.{due_mark, later_fetched, owed_mark}
use Rattle.link.specs.Proofs.Transport.Frames.{first_frame, first_says, later_frame, later_says}
use Rattle.link.specs.Proofs.Transport.Idle.{before_none, first_none}
use Rattle.link.specs.Proofs.Transport.Times.{CallsDo}

module _ (r : Road) (f : Fair r) where
  pub calls_do : CallsDo r
  calls_do =
      record {
        on_before = before_frame r f;
        on_first = λ m p i n n' s reach o. first_frame r f m p i n n' s reach o;
        on_later = λ m p g i n n' s reach o w. later_frame r f m p g i n n' s reach o w;
        before_none = before_none r f;
        first_none = first_none r f;
        later_none = λ m g i n o w. owed_mark r f m n g i o w;
        later_one = λ m g i n o all. (due_mark r f m n g i o all, later_fetched r f m n g i o all);
        must_begin = λ m n o y. must_begin r f m n o.lined o.heard y.stepped y.near;
      }

  pub says : Says r
  says =
      record {
        before_says = λ m p n n' s sent o. before_answer r f m n o p s.below sent;
        first_says = λ m p i n n' s reach o. first_says r f m p i n n' s reach o;
        later_says = λ m p g i n n' s reach o w. later_says r f m p g i n n' s reach o w;
      }
