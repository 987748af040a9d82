pub mod FrontPhis
