pub mod RelInduction
